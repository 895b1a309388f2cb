-- Which insertions of one edge close a cycle by the model, and which lists of records stop at one. Assumes nothing.
use mathlib.Core.Path.{◌≡◌, refl, sym, subst}
use mathlib.Core.Logic.{inl, inr}
use mathlib.Core.List.{List, ◌∷◌, ◌++◌}
use Prim.Native.Nat.{ℕ, suc, ◌≤◌}
use native.Mathlib.Nat.{lt_of_not-le}
use native.Mathlib.Omega.{arith}
use lib.ListN.{length}
use Rattle.std.proofs.Common.{Ok, Err}
use Rattle.record.specs.declared.Record.TheVariants.{Insert, Delete}
use Rattle.record.specs.Record.{Reading}
use Rattle.answer.specs.Table.{First}
use Rattle.sheet_theory.specs.Conditions.{BadVertices}
use Rattle.answer.proofs.ByNumber.{first_not, first_holds, first_absent}
use Rattle.edit_theory.specs.Edit.{insert_edge, delete_edge}
use Rattle.edit_theory.specs.Book.{Model}
use Rattle.edit_theory.specs.Table.{most_parallel}
use Rattle.edit_theory.specs.Model.{model_conditions}
use Rattle.edit_theory.proofs.NamedLaws.{some_one}
use Rattle.plan_theory.specs.Taken.{RecordNumber, Stops, Closing, ClosesAt}
use Rattle.edit_theory.proofs.MayLaws.{insert_first}
use Rattle.plan_theory.proofs.AppliedLaws.{taken_vertices}

module _ (m : Model) (u v : ℕ) where
  insert_closing : First (model_conditions m (insert_edge m.vertices u v)) 8 → Closing m.vertices m u v
  insert_closing f =
      let cs = model_conditions m (insert_edge m.vertices u v) in
      let not = first_not cs 8 f in
      let from = lt_of_not-le (λ l. not 3 refl (inl l)) in
      let to = lt_of_not-le (λ l. not 3 refl (inr l)) in
      record {
        from = from;
        to = to;
        apart = λ e. not 5 refl ((some_one m.vertices u v (λ i j. i ≡ j) from to).1 e);
        new = λ e. not 6 refl ((some_one m.vertices u v (λ i j. most_parallel ≤ m.edge i j) from to).1 e);
        cycle = first_holds cs 8 f refl;
      }

-- ---- lists of records

pub stops_closes : (m : Model) (l : List Reading) (p : ℕ) → Stops m l 8 p → ClosesAt m l
stops_closes m l p o = go o.at o.split o.number
  where
    go : (x : Reading) → l ≡ o.before ++ (x ∷ o.rest) → RecordNumber o.model x 8 → ClosesAt m l
    go (Ok (Insert u v)) e f = record {
      before = o.before;
      u = u;
      v = v;
      rest = o.rest;
      split = e;
      model = o.model;
      taken = o.taken;
      closing = subst (λ n. Closing n o.model u v) (taken_vertices o.before m o.model o.taken) (insert_closing o.model u v f);
    }
    go (Ok (Delete u v)) e f = absurd (first_absent (model_conditions o.model (delete_edge o.model.vertices u v)) 8 f refl)
    go (Err x) e f = absurd (omega (arith, f))

pub closes_stops : (m : Model) (l : List Reading) → ¬ (BadVertices m.vertices) → (c : ClosesAt m l) → Stops m l 8 (suc (length c.before))
closes_stops m l few c =
    let q = taken_vertices c.before m c.model c.taken in
    let x = subst (λ n. Closing n c.model c.u c.v) (sym q) c.closing in
    record {
      before = c.before;
      at = Ok (Insert c.u c.v);
      rest = c.rest;
      split = c.split;
      place = refl;
      model = c.model;
      taken = c.taken;
      number = insert_first c.model c.u c.v (rw q few) x.from x.to x.apart x.new 8 (inl (x.cycle, refl));
      refused = λ e. omega (arith, e);
    }
