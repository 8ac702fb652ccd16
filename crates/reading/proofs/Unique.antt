-- Each public function's promise settles its result, and the array that `resolve` is lent: two that fit it are equal. `Post` is the promise as the check reads it off the function's contract. Assumes nothing.
use mathlib.Core.Path.{◌≡◌, refl, sym, ap, ◌∙◌}
use mathlib.Core.Bool.{Bool, true, false}
use contract.Lifetimes.{Lfts}
use denote.Triple.Clauses.{AtExit}
use borrow.Fn.Kinds.{Dens, res_t, ended_of}
use Rattle.image.specs.Grammar.{grammar}
use Rattle.image.proofs.Unique.{Unique}
use Rattle.machine.specs.Kind as K
use Rattle.reading.specs.declared.names.Name.{Name}
use Rattle.reading.specs.declared.names.Name.TheVariants as N
use Rattle.reading.specs.declared.names.StackName.TheVariants as B
use Rattle.reading.specs.declared.kinds.Kind.{Kind}
use Rattle.reading.specs.declared.kinds.Kind.TheVariants.{InPlace, Match, Ident, NodeTag, PosPred, NegPred, Opt, Push, PushLiteral, Seq, Choice, Unbounded, Bounded}
use Rattle.reading.specs.Names.{name_is}
use Rattle.reading.specs.Kinds.{kind_is, is_name}
use Rattle.reading.proofs.NameLaws.{number-one, resolved-one}
use Rattle.reading.proofs.names.builtin.Kinds as builtin
use Rattle.reading.proofs.names.builtin.Reads as builtin-promise
use Rattle.reading.proofs.names.name_word.Kinds as name-word
use Rattle.reading.proofs.names.name_word.Reads as name-word-promise
use Rattle.reading.proofs.names.resolve.Kinds as resolve
use Rattle.reading.proofs.names.resolve.Reads as resolve-promise
use Rattle.reading.proofs.names.rule_at.Kinds as rule-at
use Rattle.reading.proofs.names.rule_at.Reads as rule-at-promise
use Rattle.reading.proofs.names.name_at.Kinds as name-at
use Rattle.reading.proofs.names.name_at.Reads as name-at-promise
use Rattle.reading.proofs.kinds.kind_at.Kinds as kind_at
use Rattle.reading.proofs.kinds.kind_at.Reads as kind-at-promise
use Rattle.reading.proofs.kinds.held_back.Kinds as held_back
use Rattle.reading.proofs.kinds.held_back.Reads as held-back-promise
use Rattle.reading.proofs.skips.skips.Kinds as skips
use Rattle.reading.proofs.skips.skips.Reads as skips-promise
use Rattle.reading.proofs.skips.skips_modify.Kinds as skips-modify
use Rattle.reading.proofs.skips.skips_modify.Reads as skips-modify-promise

pub builtin-unique : Unique 1 builtin.ps builtin.r builtin-promise.Post
builtin-unique κs a x y s t p q = number-one x y (p ∙ sym q)

pub name-word-unique : Unique 2 name-word.ps name-word.r name-word-promise.Post
name-word-unique κs a x y s t p q = p ∙ sym q

-- the words that are left in the array
pub resolve-unique :
    (κs : Lfts 2) (a : Dens κs resolve.ps) (x y : (res_t resolve.r κs).Denot) (s t : AtExit (ended_of 2 resolve.ps resolve.r) κs) →
    resolve-promise.Post κs a x s → resolve-promise.Post κs a y t → s.1.0.now ≡ t.1.0.now
resolve-unique κs a x y s t p q = resolved-one (grammar a.0.bytes.now) s.1.0.now t.1.0.now p q

pub rule-at-unique : Unique 1 rule-at.ps rule-at.r rule-at-promise.Post
rule-at-unique κs a x y s t p q = p.is ∙ sym q.is

-- what a name is to the stack pass settles the name
name_from : K.Kind → Name
name_from K.InPlace = N.Unknown
name_from K.Match = N.Unknown
name_from K.Peek = N.Stack B.Peek
name_from K.PeekAll = N.Stack B.PeekAll
name_from K.Pop = N.Stack B.Pop
name_from K.PopAll = N.Stack B.PopAll
name_from K.Drop = N.Stack B.Drop
name_from (K.Rule root) = N.Rule root
name_from (K.NodeTag part) = N.Unknown
name_from (K.PosPred part) = N.Unknown
name_from (K.NegPred part) = N.Unknown
name_from (K.Opt part) = N.Unknown
name_from (K.Push part) = N.Unknown
name_from (K.PushLiteral len) = N.Unknown
name_from (K.Seq left right) = N.Unknown
name_from (K.Choice left right) = N.Unknown
name_from (K.Unbounded part required) = N.Unknown
name_from (K.Bounded part required optional) = N.Unknown

name-again : (x : Name) → name_from (name_is x) ≡ x
unfolding name_from
name-again (N.Stack B.Peek) = refl
name-again (N.Stack B.PeekAll) = refl
name-again (N.Stack B.Pop) = refl
name-again (N.Stack B.PopAll) = refl
name-again (N.Stack B.Drop) = refl
name-again (N.Rule root) = refl
name-again N.Unknown = refl

pub name-at-unique : Unique 1 name-at.ps name-at.r name-at-promise.Post
name-at-unique κs a x y s t p q = sym (name-again x) ∙ (ap name_from (p.is ∙ sym q.is) ∙ name-again y)

-- what a kind is to the stack pass, and whether it is a name, settle the kind
kind_from : Bool → K.Kind → Kind
kind_from true k = Ident (name_from k)
kind_from false K.InPlace = InPlace
kind_from false K.Match = Match
kind_from false K.Peek = Match
kind_from false K.PeekAll = Match
kind_from false K.Pop = Match
kind_from false K.PopAll = Match
kind_from false K.Drop = Match
kind_from false (K.Rule root) = Match
kind_from false (K.NodeTag part) = NodeTag part
kind_from false (K.PosPred part) = PosPred part
kind_from false (K.NegPred part) = NegPred part
kind_from false (K.Opt part) = Opt part
kind_from false (K.Push part) = Push part
kind_from false (K.PushLiteral len) = PushLiteral len
kind_from false (K.Seq left right) = Seq left right
kind_from false (K.Choice left right) = Choice left right
kind_from false (K.Unbounded part required) = Unbounded part required
kind_from false (K.Bounded part required optional) = Bounded part required optional

kind-again : (x : Kind) → kind_from (is_name x) (kind_is x) ≡ x
unfolding kind_from
kind-again InPlace = refl
kind-again Match = refl
kind-again (Ident name) = ap Ident (name-again name)
kind-again (NodeTag part) = refl
kind-again (PosPred part) = refl
kind-again (NegPred part) = refl
kind-again (Opt part) = refl
kind-again (Push part) = refl
kind-again (PushLiteral len) = refl
kind-again (Seq left right) = refl
kind-again (Choice left right) = refl
kind-again (Unbounded part required) = refl
kind-again (Bounded part required optional) = refl

kind-one : (x y : Kind) → kind_is x ≡ kind_is y → is_name x ≡ is_name y → x ≡ y
kind-one x y p q =
    sym (kind-again x) ∙ (ap (kind_from (is_name x)) p ∙ (ap (λ (b : Bool). kind_from b (kind_is y)) q ∙ kind-again y))

pub kind-at-unique : Unique 1 kind_at.ps kind_at.r kind-at-promise.Post
kind-at-unique κs a x y s t p q = kind-one x y (p.is ∙ sym q.is) (p.named ∙ sym q.named)

pub held-back-unique : Unique 1 held_back.ps held_back.r held-back-promise.Post
held-back-unique κs a x y s t p q = p ∙ sym q

pub skips-unique : Unique 1 skips.ps skips.r skips-promise.Post
skips-unique κs a x y s t p q = p ∙ sym q

pub skips-modify-unique : Unique 1 skips-modify.ps skips-modify.r skips-modify-promise.Post
skips-modify-unique κs a x y s t p q = p ∙ sym q
