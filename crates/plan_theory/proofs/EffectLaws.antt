-- One edge by the model: what inserting and deleting it make of the edges. Assumes nothing.
use mathlib.Core.Path.{◌≡◌, refl}
use mathlib.Core.Logic.{inl, inr, ◌↔◌}
use mathlib.Core.Bool.{Bool, true, false, false≢true}
use Prim.Native.Nat.{ℕ, ◌+◌, ◌-◌}
use Rattle.std.proofs.Common.{Ok}
use Rattle.record.specs.declared.Record.TheVariants.{Insert, Delete}
use Rattle.edit_theory.specs.Edit.{one, named, changed}
use Rattle.edit_theory.specs.Book.{Model}
use Rattle.edit_theory.proofs.NamedLaws.{named_one, changed_other}
use Rattle.plan_theory.specs.Taken.{record_effect, OnlyAt}

-- ---- what becomes of the edges

-- the edges e with one more from u to v, or one less
abbrev pub with : Bool → (ℕ → ℕ → ℕ) → ℕ → ℕ → ℕ → ℕ → ℕ
with inserts e u v i j = changed inserts (named (one u v) i j) (e i j)

pub with_cases : (inserts : Bool) (e : ℕ → ℕ → ℕ) (u v i j : ℕ) → OnlyAt u v (changed inserts true (e u v)) i j (e i j) (with inserts e u v i j)
with_cases inserts e u v i j = go (named (one u v) i j) (named_one u v i j)
  where
    go : (t : Bool) → (t ≡ true) ↔ ((i ≡ u) × (j ≡ v)) → OnlyAt u v (changed inserts true (e u v)) i j (e i j) (changed inserts t (e i j))
    go true p = let q = p.0 refl in inl (q.0, q.1, rw (q.0, q.1))
    go false p = inr (λ q. false≢true (p.1 q), changed_other inserts (e i j))

-- `L` inserts an edge from its first vertex to its second
pub insert_effect : (m : Model) (u v i j : ℕ) → OnlyAt u v (m.edge u v + 1) i j (m.edge i j) ((record_effect m (Ok (Insert u v))).edge i j)
insert_effect m = with_cases true m.edge

-- and `T` deletes one
pub delete_effect : (m : Model) (u v i j : ℕ) → OnlyAt u v (m.edge u v - 1) i j (m.edge i j) ((record_effect m (Ok (Delete u v))).edge i j)
delete_effect m = with_cases false m.edge
