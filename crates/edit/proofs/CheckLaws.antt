-- The laws of the checks of `src/checks.rt`: the ways out of each function, but for what its search gives (SearchLaws).
-- Assumes nothing.
use mathlib.Core.Path.{◌≡◌, refl, sym, ap, ◌∙◌}
use mathlib.Core.Logic.{inl, inr, ⊎_elim}
use mathlib.Core.Bool.{Bool, true, false, not}
use mathlib.Core.List.{List}
use Prim.Native.Nat.{ℕ, ◌-◌, ◌^◌, ◌≤◌, ◌<◌}
use native.Mathlib.Decide.{ℕ_discrete}
use native.Mathlib.Omega.{arith}
use lib.Bits.{bit_and}
use lib.Dec.{eqb}
use Rattle.word.specs.Bit.{bit, has_bit, with_bit}
use Rattle.word.proofs.BitLaws.{bit_lt, bit_set_same, bit_set_other, has_true, has_false}
use Rattle.word.proofs.MaskLaws.{bit_not, and_zero, and_some}
use Rattle.graph.specs.Update.{into, out, through, Closes}
use Rattle.answer.specs.Table.{Reflects}
use Rattle.sheet_theory.specs.Layout.{row_at, count_at, edge_at}
use Rattle.sheet_theory.specs.Lent.{Lent, mult_at}
use Rattle.answer.proofs.TableLaws.{reflects_true, reflects_iff, reflects_not, reflects_eq, reflects_false}
use Rattle.edit_theory.specs.Edit.{at, one_if}
use Rattle.edit_theory.specs.Table.{SomeEdge, SomeOf, most_parallel}
use Rattle.edit.specs.Internal.{EditNumber, RefusedBits, Meets}
use Rattle.edit_theory.proofs.TestLaws.{named_of, named_into, named_out}

-- ---- refused_bits

module _ (inserts : Bool) (row : ℕ) where
  pub refused_absent : row < 2 ^ 64 → inserts ≡ false → RefusedBits inserts row ((2 ^ 64 - 1) - row)
  refused_absent l e j h = rw e (λ o. omega (arith, bit_not 64 row j l h), λ o. omega (arith, bit_not 64 row j l h))

  -- the test of a bit of what it gave
  pub refused_test : (r v : ℕ) (t : Bool) → v < 64 → RefusedBits inserts row r → t ≡ has_bit r v → Reflects t (bit row v ≡ one_if inserts)
  refused_test r v t h c e = rw e (reflects_iff (c v h).0 (c v h).1 (reflects_eq (bit r v) 1))

-- ---- some_edge

module _ (inserts : Bool) (n : ℕ) (s : List ℕ) (v a b : ℕ) where
  abbrev Into : Type 0
  Into = SomeOf n a (λ i. edge_at s i v ≡ one_if inserts)

  abbrev Some : Type 0
  Some = SomeEdge n (at v a b) (λ i j. edge_at s i j ≡ one_if inserts)

  pub edge_into : (t : Bool) → v < n → Reflects t Into → t ≡ true → Reflects true Some
  edge_into t h p e = let c = p.holds e in reflects_true (c.0, c.1, v, h, named_into v a b c.0 c.2, c.3)

  -- no edge to v is refused, and r has the bits of row v that are
  pub edge_out : (t : Bool) (r : ℕ) → n ≤ 64 → v < n → b < 2 ^ n → Reflects t Into → t ≡ false → RefusedBits inserts (row_at s v) r
      → Reflects (not (eqb (bit_and b r) 0)) Some
  edge_out t r small h below p e c = reflects_iff there back (reflects_not (reflects_eq (bit_and b r) 0))
    where
      there : ¬ (bit_and b r ≡ 0) → Some
      there d =
          let q = and_some b r n below d in
          (v, h, q.0, q.1, named_out v a b q.0 q.2, (c q.0 (omega (arith, q.1))).0 q.3)

      back : Some → ¬ (bit_and b r ≡ 0)
      back (i, hi, j, hj, q, x) z =
          ⊎_elim
          (λ o. (reflects_false p).0 e (i, hi, o.0, rw o.1 at x))
          (λ o. omega (arith, and_zero b r z j o.1, (c j (omega arith)).1 (rw o.0 at x)))
          (named_of v a b i j q)

-- ---- closes_cycle

module _ (n : ℕ) (s : List ℕ) (v a b : ℕ) (t : Bool) (p : Reflects t (Meets n s a v)) where
  abbrev Closed : Type 0
  Closed = Closes n (count_at n s) v (bit a) (bit b)

  pub cycle_into : t ≡ true → Reflects true Closed
  cycle_into e = let c = p.holds e in reflects_true (into c.0 c.1 (omega (arith, c.2)) c.3)

  -- from v one comes to no predecessor; m has v and the predecessors
  pub cycle_out : (m : ℕ) (r : Bool) → v < n → t ≡ false → m ≡ with_bit a v → Reflects r (SomeOf n b (Meets n s m)) → Reflects r Closed
  cycle_out m r h e em q = reflects_iff there back q
    where
      there : SomeOf n b (Meets n s m) → Closed
      there (i, hi, oi, (k, hk, ok, x)) =
          elim (ℕ_discrete k v) [
            | yes z ↦ out i hi (omega arith) (rw z at x)
            | no d ↦ through k i hk hi (omega (arith, bit_set_other a v k d, ap (λ y. bit y k) em)) (omega arith) x
          ]

      kept : (k : ℕ) → bit a k ≡ 1 → bit m k ≡ 1
      kept k o = rw em (elim (ℕ_discrete k v) [ yes z ↦ rw z (bit_set_same a v) | no d ↦ bit_set_other a v k d ∙ o ])

      back : Closed → SomeOf n b (Meets n s m)
      back (into k hk o x) = absurd ((reflects_false p).0 e (k, hk, omega arith, x))
      back (out i hi o x) = (i, hi, omega arith, (v, h, ap (λ y. bit y v) em ∙ bit_set_same a v, x))
      back (through k i hk hi ok oi x) = (i, hi, omega arith, (k, hk, kept k (omega arith), x))

-- ---- check

module _ (n : ℕ) (s : Lent) (v a b : ℕ) (inserts : Bool) where
  abbrev Gives : ℕ → Type 0
  Gives k = EditNumber inserts n s v a b k

  -- an edge to be refused, where x is 1 or 0
  abbrev Clash : ℕ → Type 0
  Clash x = SomeEdge n (at v a b) (λ i j. edge_at s.words i j ≡ x)

  -- a deletion: t says whether there is an edge that is absent
  module _ (e : not inserts ≡ true) (t : Bool) (p : Reflects t (Clash (one_if inserts))) where
    deletes : inserts ≡ false
    deletes = grind (arith)

    pub delete_absent : t ≡ true → Gives 7
    unfolding EditNumber
    delete_absent f = rw deletes (inl ((rw deletes at p).holds f, refl))

    pub delete_good : t ≡ false → Gives 0
    unfolding EditNumber
    delete_good f = rw deletes (inr ((reflects_false (rw deletes at p)).0 f, refl))

  -- an insertion: t and u say whether v is a predecessor or a successor of itself
  module _ (e : not inserts ≡ false) (h : v < n) where
    inserting : inserts ≡ true
    inserting = grind (arith)

    pub insert_into : (t : Bool) → t ≡ has_bit a v → t ≡ true → Gives 5
    unfolding EditNumber
    insert_into t et f = rw inserting (inl ((v, h, v, h, named_into v a b v (has_true a v t et f), refl), refl))

    pub insert_out : (u : Bool) → u ≡ has_bit b v → u ≡ true → Gives 5
    unfolding EditNumber
    insert_out u eu f = rw inserting (inl ((v, h, v, h, named_out v a b v (has_true b v u eu f), refl), refl))

    -- neither; w says whether there is an edge that is present
    module _ (t : Bool) (et : t ≡ has_bit a v) (f : t ≡ false) (u : Bool) (eu : u ≡ has_bit b v) (g : u ≡ false) (w : Bool)
        (p : Reflects w (Clash (one_if inserts))) where
      no_loop : ¬ (SomeEdge n (at v a b) (λ i j. i ≡ j))
      no_loop (i, hi, j, hj, q, x) =
          ⊎_elim
          (λ o. omega (arith, has_false a v t et f, rw (x ∙ o.1) at o.0))
          (λ o. omega (arith, has_false b v u eu g, rw (sym x ∙ o.0) at o.1))
          (named_of v a b i j q)

      -- the most that there may be are there
      present : Reflects w (SomeEdge n (at v a b) (λ i j. most_parallel ≤ mult_at n s i j))
      present =
          reflects_iff (λ c. (c.0, c.1, c.2, c.3, c.4, omega (arith, c.5)))
          (λ c. (c.0, c.1, c.2, c.3, c.4, omega (arith, c.5, bit_lt (row_at s.words c.0) c.2))) (rw inserting at p)

      pub insert_present : w ≡ true → Gives 6
      unfolding EditNumber
      insert_present k = rw inserting (inr (no_loop, inl (present.holds k, refl)))

      -- no edge is present; r says whether a cycle would close
      module _ (k : w ≡ false) (r : Bool) (q : Reflects r (Closes n (count_at n s.words) v (bit a) (bit b))) where
        pub insert_cycle : r ≡ true → Gives 8
        unfolding EditNumber
        insert_cycle z = rw inserting (inr (no_loop, inr ((reflects_false present).0 k, inl (q.holds z, refl))))

        pub insert_good : r ≡ false → Gives 0
        unfolding EditNumber
        insert_good z = rw inserting (inr (no_loop, inr ((reflects_false present).0 k, inr ((reflects_false q).0 z, refl))))
