-- What `rule_modifies_stack` looks at in an expression: five cases.
use Rattle.std.specs.Prelude.{ℕ, ◌+◌, ◌≤◌, ◌<◌}
use Rattle.image.specs.declared.expr.Expr.{Expr}
use Rattle.image.specs.declared.expr.Expr.TheVariants.{Str, Insens, Range, Ident, PeekSlice, PosPred, NegPred, Seq, Choice, Opt, Rep, RepOnce, RepExact, RepMin, RepMax, RepMinMax, Push, PushLiteral, NodeTag}
use Rattle.reading.specs.declared.looks.Look.{Look}
use Rattle.reading.specs.declared.looks.Look.TheVariants.{Keeps, Changes, Named, One, Two}

-- predicates restore the stack; counts are not looked at
abbrev pub look_of : Expr → Look
look_of (Str at len) = Keeps
look_of (Insens at len) = Keeps
look_of Range = Keeps
look_of (Ident at len) = Named at len
look_of (PeekSlice start ends end) = Keeps
look_of (PosPred part) = Keeps
look_of (NegPred part) = Keeps
look_of (Seq left right) = Two left right
look_of (Choice left right) = Two left right
look_of (Opt part) = One part
look_of (Rep part) = One part
look_of (RepOnce part) = One part
look_of (RepExact part count) = One part
look_of (RepMin part count) = One part
look_of (RepMax part count) = One part
look_of (RepMinMax part least most) = One part
look_of (Push part) = Changes
look_of (PushLiteral at len) = Changes
look_of (NodeTag part) = One part

-- the parts looked at are below n, and a name is inside a text of t bytes
abbrev pub LookBelow : ℕ → ℕ → Look → Type 0
LookBelow t n Keeps = Unit {0}
LookBelow t n Changes = Unit {0}
LookBelow t n (Named at len) = at + len ≤ t
LookBelow t n (One part) = part < n
LookBelow t n (Two left right) = (left < n) × (right < n)
