-- Each public function's promise settles its result: two that fit it are equal. `Post` is the promise as the check reads it off the function's contract. Assumes nothing.
use mathlib.Core.Path.{◌≡◌, sym, ap, ◌∙◌}
use mathlib.Core.List.{List}
use lib.ListN.{take}
use contract.Lifetimes.{Lfts}
use denote.Triple.Clauses.{AtExit}
use borrow.Fn.Kinds.{ParamKind, Dens, res_t, ended_of, Out}
use Rattle.image.proofs.Unique.{Unique, UniqueBytes}
use Rattle.words.proofs.line.shown.Kinds as shown
use Rattle.words.proofs.line.shown.Reads as shown-promise
use Rattle.words.proofs.line.trimmed.Kinds as trimmed
use Rattle.words.proofs.line.trimmed.Reads as trimmed-promise
use Rattle.words.proofs.number.number.Kinds as number
use Rattle.words.proofs.number.number.Reads as number-promise
use Rattle.words.proofs.number.within.Kinds as within
use Rattle.words.proofs.number.within.Reads as within-promise
use Rattle.words.proofs.owner.owner.Kinds as owner
use Rattle.words.proofs.owner.owner.Reads as owner-promise
use Rattle.words.proofs.picture.entries.Kinds as entries
use Rattle.words.proofs.picture.entries.Reads as entries-promise
use Rattle.words.proofs.picture.picture.Kinds as picture
use Rattle.words.proofs.picture.picture.Reads as picture-promise
use Rattle.words.proofs.texts.refusal.Kinds as refusal
use Rattle.words.proofs.texts.refusal.Reads as refusal-promise
use Rattle.words.proofs.texts.reason.Kinds as reason
use Rattle.words.proofs.texts.reason.Reads as reason-promise
use Rattle.words.proofs.texts.why.Kinds as why
use Rattle.words.proofs.texts.why.Reads as why-promise
use Rattle.words.proofs.texts.kind.Kinds as kind
use Rattle.words.proofs.texts.kind.Reads as kind-promise
use Rattle.words.proofs.texts.below.Kinds as below
use Rattle.words.proofs.texts.below.Reads as below-promise

-- at the same arguments, two texts that fit a promise have the same bytes
abbrev pub UniqueText : (ps : List (ParamKind 1)) → Out 1 ps refusal.r → Type 0
UniqueText ps Post =
    (κs : Lfts 1) (a : Dens κs ps) (x y : (res_t refusal.r κs).Denot) (s t : AtExit (ended_of 1 ps refusal.r) κs) →
    Post κs a x s → Post κs a y t → x.now ≡ y.now

pub shown-unique : Unique 1 shown.ps shown.r shown-promise.Post
shown-unique κs a x y s t p q = p ∙ sym q

pub trimmed-unique : UniqueBytes trimmed.ps trimmed-promise.Post
trimmed-unique κs a x y s t p q = p.1 ∙ ap (λ n. take n a.0.now) (p.0.is ∙ sym q.0.is) ∙ sym q.1

pub number-unique : Unique 1 number.ps number.r number-promise.Post
number-unique κs a x y s t p q = p ∙ sym q

pub within-unique : Unique 1 within.ps within.r within-promise.Post
within-unique κs a x y s t p q = p.is ∙ sym q.is

pub owner-unique : Unique 1 owner.ps owner.r owner-promise.Post
owner-unique κs a x y s t p q = p ∙ sym q

pub entries-unique : Unique 0 entries.ps entries.r entries-promise.Post
entries-unique κs a x y s t p q = p ∙ sym q

pub picture-unique : Unique 0 picture.ps picture.r picture-promise.Post
picture-unique κs a x y s t p q = p ∙ sym q

pub refusal-unique : UniqueText refusal.ps refusal-promise.Post
refusal-unique κs a x y s t p q = p.is ∙ sym q.is

pub reason-unique : UniqueText reason.ps reason-promise.Post
reason-unique κs a x y s t p q = p.is ∙ sym q.is

pub why-unique : UniqueText why.ps why-promise.Post
why-unique κs a x y s t p q = p.is ∙ sym q.is

pub kind-unique : UniqueText kind.ps kind-promise.Post
kind-unique κs a x y s t p q = p.is ∙ sym q.is

pub below-unique : UniqueText below.ps below-promise.Post
below-unique κs a x y s t p q = p.is ∙ sym q.is
