-- The update on a table that holds only the remainders of the path counts by m: it gives the remainders of the counts after it. Assumes nothing.
use mathlib.Core.Path.{refl, sym, ap, ◌∙◌}
use Prim.Native.Nat.{ℕ, ◌+◌, ◌*◌, ◌%◌, ◌<◌}
use Rattle.sums.specs.Modulo.{Congruent}
use Rattle.sums.proofs.ModuloLaws.{congruent_add, congruent_mul, congruent_product, congruent_cancel, congruent_sum}
use Rattle.graph.specs.Graph.{Acyclic}
use Rattle.graph.specs.Count.{path_count}
use Rattle.graph.specs.Update.{inserted, from_sum, to_sum, updated}
use Rattle.graph.proofs.Editing.{before, insertion, deletion}

module _ (n m : ℕ) (C D : ℕ → ℕ → ℕ) (α β : ℕ → ℕ) (h : (i j : ℕ) → i < n → j < n → Congruent m (C i j) (D i j)) where
  from_congruent : (i : ℕ) → i < n → Congruent m (from_sum n C α i) (from_sum n D α i)
  unfolding from_sum
  from_congruent i hi = congruent_sum m n _ _ (λ a p. congruent_mul m (α a) (C i a) (D i a) (h i a hi p))

  to_congruent : (j : ℕ) → j < n → Congruent m (to_sum n C β j) (to_sum n D β j)
  unfolding to_sum
  to_congruent j hj = congruent_sum m n _ _ (λ b p. congruent_mul m (β b) (C b j) (D b j) (h b j p hj))

  -- what the update adds by one of the two sums, and by both
  one_congruent : (v i j : ℕ) → v < n → i < n → j < n
      → Congruent m (C i v * to_sum n C β j + from_sum n C α i * C v j) (D i v * to_sum n D β j + from_sum n D α i * D v j)
  one_congruent v i j hv hi hj =
      congruent_add m _ _ _ _ (congruent_product m _ _ _ _ (h i v hi hv) (to_congruent j hj)) (congruent_product m _ _ _ _ (from_congruent i hi) (h v j hv hj))

  both_congruent : (i j : ℕ) → i < n → j < n → Congruent m (from_sum n C α i * to_sum n C β j) (from_sum n D α i * to_sum n D β j)
  both_congruent i j hi hj = congruent_product m _ _ _ _ (from_congruent i hi) (to_congruent j hj)

module _ (n m : ℕ) (w : ℕ → ℕ → ℕ) (v : ℕ) (α β : ℕ → ℕ) (hv : v < n) (acyclic : Acyclic n (inserted w v α β)) (t : ℕ → ℕ → ℕ) where
  pub insertion_mod : ((i j : ℕ) → i < n → j < n → Congruent m (t i j) (path_count n w i j))
      → (i j : ℕ) → i < n → j < n → Congruent m (updated n t v α β i j) (path_count n (inserted w v α β) i j)
  unfolding updated
  insertion_mod h i j hi hj =
      congruent_add m _ _ _ _ (h i j hi hj)
      (congruent_add m _ _ _ _ (one_congruent n m t (path_count n w) α β h v i j hv hi hj) (both_congruent n m t (path_count n w) α β h i j hi hj))
      ∙ ap (λ x. x % m) (sym (insertion n w v α β (before n w v α β acyclic) hv acyclic i j hi hj))

  -- the way back: x with the one added leaves the remainder of the table's entry with the other added
  pub deletion_mod : ((i j : ℕ) → i < n → j < n → Congruent m (t i j) (path_count n (inserted w v α β) i j))
      → (i j : ℕ) → i < n → j < n → (x : ℕ)
      → Congruent m (x + (t i v * to_sum n t β j + from_sum n t α i * t v j)) (t i j + from_sum n t α i * to_sum n t β j)
      → Congruent m x (path_count n w i j)
  deletion_mod h i j hi hj x e =
      let D = path_count n (inserted w v α β) in
      congruent_cancel m x (path_count n w i j) (D i v * to_sum n D β j + from_sum n D α i * D v j)
      (congruent_add m _ _ _ _ refl (sym (one_congruent n m t D α β h v i j hv hi hj))
      ∙ e
      ∙ congruent_add m _ _ _ _ (h i j hi hj) (both_congruent n m t D α β h i j hi hj)
      ∙ ap (λ y. y % m) (sym (deletion n w v α β (before n w v α β acyclic) hv acyclic i j hi hj)))
