-- Where there is no cycle no walk is long, and the other way round; so whether there is a cycle is decided. Assumes nothing.
use mathlib.Core.Path.{◌≡◌, refl}
use mathlib.Core.Logic.{◌⊎◌, inl, inr}
use mathlib.Core.List.{List, [], ◌∷◌, ◌++◌}
use Prim.Native.Nat.{ℕ, zero, suc, ◌+◌, ◌<◌}
use native.Mathlib.Decide.{ℕ_discrete, dec_lt}
use native.Mathlib.Omega.{arith}
use lib.ListN.{length}
use Rattle.graph.specs.Graph.{◌is_in◌, Distinct, Edge, Walk, Cycle, Acyclic}
use Rattle.graph.proofs.Lists.{in?}
use Rattle.graph.proofs.Pigeon.{Below, pigeonhole}
use Rattle.graph.proofs.Walks.{walk_append, Reach, reach_refl, reach_step, reach_trans, cycle_of}

-- if for each number below n either P or Q, then either P or Q of all of them
all_or : (n : ℕ) {P : Type 0} (Q : ℕ → Type 0) → ((b : ℕ) → b < n → P ⊎ Q b) → P ⊎ ((b : ℕ) → b < n → Q b)
all_or zero Q h = inr (λ b p. absurd (omega arith))
all_or (suc n) Q h =
    elim (h n (omega arith)) [
      | inl p ↦ inl p
      | inr q ↦ elim (all_or n Q (λ b p. h b (omega arith))) [
        | inl p ↦ inl p
        | inr r ↦ inr (λ b p. elim (ℕ_discrete b n) [ yes e ↦ rw e q | no d ↦ r b (omega arith) ])
      ]
    ]

module _ (n : ℕ) (w : ℕ → ℕ → ℕ) where
  -- a walk from i has at most k vertices, i among them
  abbrev pub Deep : ℕ → ℕ → Type 0
  Deep zero i = ⊥
  Deep (suc k) i = (b : ℕ) → b < n → Edge n w i b → Deep k b

  -- on a cycle one can go on for ever: an edge leads from i to b, and b too is on the cycle
  no_deep : (k i b : ℕ) (l : List ℕ) → b < n → Edge n w i b → Walk n w b l i → Deep k i → ⊥
  no_deep zero i b l h p q d = d
  no_deep (suc k) i b [] h p e d = no_deep k b b [] h (rw (← e) at p) refl (d b h p)
  no_deep (suc k) i b (c ∷ l) h p q d = no_deep k b c (l ++ (b ∷ [])) q.0 q.1 (walk_append n w c l i (b ∷ []) b q.2 (h, p, refl)) (d b h p)

  -- where no walk has more than k vertices there is no cycle
  pub deep_acyclic : (k : ℕ) → ((i : ℕ) → i < n → Deep k i) → Acyclic n w
  deep_acyclic k d q = no_deep k q.at q.next q.rest q.back.0 q.back.1 q.back.2 (d q.at q.bounded)

  -- Go on from i for k more vertices. l holds the vertices passed, i among them: all differ, and from each of them edges lead to i.
  -- To come to one of them again closes a cycle; else they stay different, and there are no more than n of them.
  cycle_or_deep_from : (k : ℕ) (l : List ℕ) (i : ℕ) → i < n → Below n l → Distinct l → ((x : ℕ) → x is_in l → Reach n w x i)
      → length l + k ≡ suc n → Cycle n w ⊎ Deep k i
  cycle_or_deep_from zero l i h bl d r e = absurd (omega (arith, pigeonhole n l bl d))
  cycle_or_deep_from (suc k) l i h bl d r e =
      all_or n (λ b. Edge n w i b → Deep k b)
      (λ b hb. elim (dec_lt 0 (w i b)) [
        | no q ↦ inr (λ p. absurd (q p))
        | yes p ↦ elim (in? b l) [
          | yes m ↦ inl (cycle_of n w i b h hb p (r b m))
          | no m ↦ elim (cycle_or_deep_from k (b ∷ l) b hb
              (λ x m. elim m [ inl q ↦ rw q hb | inr q ↦ bl x q ])
              (m, d)
              (λ x m. elim m [ inl q ↦ rw q (reach_refl n w b) | inr q ↦ reach_trans n w (r x q) (reach_step n w hb p (reach_refl n w b)) ])
              (omega arith)) [ inl c ↦ inl c | inr g ↦ inr (λ _. g) ]
        ]
      ])

  -- there is a cycle, or no walk has more than n vertices
  cycle_or_deep : Cycle n w ⊎ ((i : ℕ) → i < n → Deep n i)
  cycle_or_deep =
      all_or n (Deep n)
      (λ i h. cycle_or_deep_from n (i ∷ []) i h (λ x m. elim m [ inl q ↦ rw q h | inr q ↦ absurd q ]) ((λ m. m), tt)
      (λ x m. elim m [ inl q ↦ rw q (reach_refl n w i) | inr q ↦ absurd q ]) (omega arith))

  -- where there is no cycle, no walk has more than n vertices
  pub deep : Acyclic n w → (i : ℕ) → i < n → Deep n i
  deep a = elim cycle_or_deep [ inl c ↦ absurd (a c) | inr d ↦ d ]

  pub cycle? : Dec (Cycle n w)
  cycle? = elim cycle_or_deep [ inl c ↦ yes c | inr d ↦ no (deep_acyclic n d) ]
