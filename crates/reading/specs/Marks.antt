-- The rules seen, as marks: what it is for a search that marks to follow the definition, whatever list of seen rules the marks show.
use Rattle.std.specs.Prelude.{ℕ, ◌<◌, ◌≡◌, Bool, false, List, length, get_or, Option}
use Rattle.image.specs.declared.expr.Expr.TheVariants.{Ident}
use Rattle.image.specs.Grammar.{Grammar, expr_at, text_of}
use Rattle.asking.specs.Modifies.{Looked, is_in, found_modifies, name_modifies, node_modifies, rule_modifies}

-- a rule is marked exactly where it is in the list
pub record Shows (marks : List Bool) (seen : List ℕ) : Type 0 where
  pub long : length marks ≡ 256
  pub each : (i : ℕ) → i < 256 → get_or marks i false ≡ is_in i seen

-- a result and the marks it leaves are those of a search
pub record LookedAs (d : Looked) (r : Bool) (marks : List Bool) : Type 0 where
  pub modifies : r ≡ d.modifies
  pub seen : Shows marks d.seen

-- a search that marks follows one over lists: from every list that the marks show
pub record Follows (d : List ℕ → Looked) (before : List Bool) (r : Bool) (after : List Bool) : Type 0 where
  pub each : (seen : List ℕ) → Shows before seen → LookedAs (d seen) r after

-- it follows the search of a rule that was found
abbrev pub FollowsFound : Grammar → ℕ → Option ℕ → List Bool → Bool → List Bool → Type 0
FollowsFound g unseen found before r after = Follows (λ seen. found_modifies g (rule_modifies g unseen) seen found) before r after

-- it follows the search of the name that node n is
abbrev pub FollowsName : Grammar → ℕ → ℕ → List Bool → Bool → List Bool → Type 0
FollowsName g unseen n before r after =
    (at len : ℕ) → expr_at g n ≡ Ident at len →
    Follows (name_modifies g (rule_modifies g unseen) (text_of g at len)) before r after

-- it follows the search of node n, under any bound above n
abbrev pub FollowsNode : Grammar → ℕ → ℕ → List Bool → Bool → List Bool → Type 0
FollowsNode g unseen n before r after =
    (bound : ℕ) → n < bound → Follows (node_modifies g (rule_modifies g unseen) bound n) before r after
