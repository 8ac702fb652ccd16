-- What the functions of this crate ask of their arguments, and what they promise of their results.
use Rattle.std.specs.Prelude.{ℕ, ◌<◌, ◌≡◌, false, ◌&&◌, not, List, eqb, length, get_or, Option}
use Rattle.image.specs.declared.expr.Expr.TheVariants.{Ident}
use Rattle.image.specs.Grammar.{Grammar, grammar, expr_at, text_of, find_rule}
use Rattle.image.specs.Formed.{Formed}
use Rattle.asking.specs.Reading.{found_kind, text_kind, slice_kind, bounded_kind, kind_at}
use Rattle.reading.specs.declared.names.Name.{Name}
use Rattle.reading.specs.declared.kinds.Kind.{Kind}
use Rattle.reading.specs.declared.looks.Look.{Look}
use Rattle.reading.specs.Names.{Resolved, found_in, name_is, NameBelow}
use Rattle.reading.specs.Kinds.{read_as_name, Reads}
use Rattle.reading.specs.Looks.{look_of, LookBelow}

-- node n is an Ident
pub record AtIdent (s : List ℕ) (n : ℕ) : Type 0 where
  pub node : n < length (grammar s).nodes
  pub at : ℕ
  pub len : ℕ
  pub ident : expr_at (grammar s) n ≡ Ident at len

-- what is looked at in node n
pub record LookAt (s : List ℕ) (n : ℕ) (r : Look) : Type 0 where
  pub is : look_of (expr_at (grammar s) n) ≡ r
  pub below : LookBelow (length (grammar s).text) n r

-- the rule that the word of n tells; it is the rule that an Ident names, in every grammar whose names these are
pub record RuleAt (names : List ℕ) (n : ℕ) (r : Option ℕ) : Type 0 where
  pub is : r ≡ found_in (get_or names n 0)
  pub finds :
      (g : Grammar) → Formed g → Resolved g names → (at len : ℕ) → n < length g.nodes → expr_at g n ≡ Ident at len →
      r ≡ find_rule g (text_of g at len)

-- what a name is that is not built in
pub record NameFound (s : List ℕ) (found : Option ℕ) (r : Name) : Type 0 where
  pub is : name_is r ≡ found_kind (grammar s) found
  pub below : NameBelow (length (grammar s).nodes) r

-- what the Ident n is
pub record NameAt (s : List ℕ) (n : ℕ) (r : Name) : Type 0 where
  pub is : name_is r ≡ kind_at (grammar s) n
  pub below : NameBelow (length (grammar s).nodes) r

-- what node n is
abbrev pub KindAt : List ℕ → ℕ → Kind → Type 0
KindAt s n r = Reads (kind_at (grammar s) n) (read_as_name (expr_at (grammar s) n)) (length (grammar s).nodes) n r

-- the same of a Str or an Insens, a PeekSlice, a RepMinMax, whatever node it is
abbrev pub TextRead : ℕ → Kind → Type 0
TextRead len r = (count n : ℕ) → Reads (text_kind len) false count n r

abbrev pub SliceRead : ℕ → ℕ → ℕ → Kind → Type 0
SliceRead start ends end r =
    (count n : ℕ) → Reads (slice_kind (eqb start 0) (not (eqb ends 0)) (eqb end 0)) (eqb start 0 && eqb ends 0) count n r

abbrev pub BoundsRead : ℕ → ℕ → ℕ → Kind → Type 0
BoundsRead part least most r = (count n : ℕ) → part < n → Reads (bounded_kind part least most) false count n r
