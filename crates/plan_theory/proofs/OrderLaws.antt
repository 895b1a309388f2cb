-- The records of a sheet's edges ascend by from, then to; so there are no two alike. Assumes nothing.
use mathlib.Core.Path.{◌≡◌, sym, ap, ◌∙◌}
use mathlib.Core.Logic.{◌↔◌, inl, inr}
use mathlib.Core.Bool.{Bool, true, false, cond}
use mathlib.Core.List.{List, [], ◌∷◌}
use Prim.Native.Nat.{ℕ}
use native.Mathlib.Omega.{arith}
use Rattle.std.proofs.Common.{Ok}
use Rattle.word.specs.Bit.{has_bit}
use Rattle.graph.specs.Graph.{◌is_in◌, Distinct}
use Rattle.graph.specs.Ascending.{Ascending}
use Rattle.graph.proofs.Lists.{gather_of}
use Rattle.graph.proofs.AscendingLaws.{gather_ascending, ascending_distinct, ascending_only, edge_asym}
use Rattle.record.specs.declared.Record.TheVariants.{Insert}
use Rattle.record.specs.Record.{Reading}
use Rattle.sheet_theory.specs.Layout.{row_at}
use Rattle.sheet_theory.specs.Lent.{Lent}
use Rattle.plan_theory.specs.PlanOf.{edge_insert, row_inserts, edge_records, edge_of, Lower}
use Rattle.plan_theory.proofs.PlanOfLaws.{said_of}

-- ---- the edges of a sheet

-- where a record's edge runs from, and where to
abbrev from : Reading → ℕ
from x = (edge_of x).0

abbrev to : Reading → ℕ
to x = (edge_of x).1

-- the record of one edge, if there is one
said_ascending : (t : Bool) (x : Reading) → Ascending Lower (cond t (x ∷ []) [])
said_ascending true x = (λ y m. absurd m, tt)
said_ascending false x = tt

-- those of the edges from i
row_ascending : (n : ℕ) (s : Lent) (i : ℕ) → Ascending Lower (row_inserts n s i)
unfolding edge_of
row_ascending n s i =
    gather_ascending Lower n (edge_insert s i) (λ j hj. said_ascending (has_bit (row_at s.words i) j) (Ok (Insert i j)))
    (λ j k x y h p q.
    let ex = (said_of s i j x p).0 in
    let ey = (said_of s i k y q).0 in
    inr (ap from ex ∙ sym (ap from ey), omega (arith, h, ap to ex, ap to ey)))

row_from : (n : ℕ) (s : Lent) (i : ℕ) (x : Reading) → x is_in row_inserts n s i → from x ≡ i
unfolding edge_of
row_from n s i x m = let q = gather_of n (edge_insert s i) x m in ap from (said_of s i q.0 x q.2).0

-- all of them
pub edge_records_ascending : (n : ℕ) (s : Lent) → Ascending Lower (edge_records n s)
unfolding edge_records
edge_records_ascending n s =
    gather_ascending Lower n (row_inserts n s) (λ i hi. row_ascending n s i)
    (λ i k x y h p q. inl (omega (arith, h, row_from n s i x p, row_from n s k y q)))

-- ---- no edge is said twice

lower_asym : (x y : Reading) → Lower x y → ¬ (Lower y x)
lower_asym x y = edge_asym (edge_of x) (edge_of y)

pub edge_records_distinct : (n : ℕ) (s : Lent) → Distinct (edge_records n s)
edge_records_distinct n s = ascending_distinct Lower lower_asym (edge_records n s) (edge_records_ascending n s)

-- ---- and no other list of these records ascends

pub edge_records_only : (n : ℕ) (s : Lent) (l : List Reading) → Ascending Lower l → ((x : Reading) → (x is_in l) ↔ (x is_in edge_records n s)) → l ≡ edge_records n s
edge_records_only n s l a e = ascending_only Lower lower_asym l (edge_records n s) a (edge_records_ascending n s) e
