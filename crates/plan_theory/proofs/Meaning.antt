-- WHAT READING AND WRITING A PLAN MEAN: in terms of the model, of whole lists of edits and of cycles. Assumes nothing.
use mathlib.Core.Path.{◌≡◌, refl, sym, ap, ap₂, subst, ◌∙◌}
use mathlib.Core.Logic.{inl, inr, ◌↔◌}
use mathlib.Core.List.{List, [], ◌∷◌}
use Prim.Native.Nat.{ℕ, zero, suc, ◌*◌, ◌≤◌}
use native.Mathlib.Decide.{ℕ_discrete}
use native.Mathlib.Omega.{arith}
use lib.ListN.{length, take, drop}
use Rattle.sums.specs.Gather.{gather}
use Rattle.text.specs.Text.{written}
use Rattle.text.proofs.TextLaws.{written_first}
use Rattle.record.specs.Record.{OfForm}
use Rattle.answer.specs.declared.Answer.{Answer}
use Rattle.answer.specs.Table.{◌gives◌, First}
use Rattle.answer.specs.Answers.{answer, decided}
use Rattle.sheet_theory.specs.Layout.{set_bits}
use Rattle.sheet_theory.specs.Lent.{Lent}
use Rattle.sheet_theory.specs.Valid.{Valid}
use Rattle.answer.proofs.TableLaws.{first_only, first_past}
use Rattle.answer.proofs.AnswerLaws.{decided_new, decided_old, answer_ext}
use Rattle.recount_theory.proofs.Meaning.{valid_validates}
use Rattle.edit_theory.specs.Book.{Model, opened}
use Rattle.edit_theory.specs.Model.{Fresh}
use Rattle.edit_theory.proofs.FreshLaws.{modelled_valid, valid_modelled}
use Rattle.edit_lists.specs.Run.{Run}
use Rattle.edit_lists.proofs.WholeLists.{whole_list}
use Rattle.plan_theory.specs.Records.{records, edits, applied}
use Rattle.plan_theory.specs.Taken.{Taken, Stops, ClosesAt}
use Rattle.plan_theory.specs.Accepted.{AcceptedPlan}
use Rattle.plan_theory.specs.PlanOf.{plan_of}
use Rattle.plan_theory.specs.Calls.{BadPlan, read_conditions, applied_plan, read_answer, read_after, ReadPlan, write_conditions, WritePlan}
use Rattle.sheet_theory.proofs.ValidLaws.{accepted_valid, valid_passed}
use Rattle.plan_theory.proofs.AppliedLaws.{taken_run, applied_taken, applied_place, applied_after, applied_stops, stops_only, taken_not_stops}
use Rattle.plan_theory.proofs.PlaceLaws.{stops_malformed}
use Rattle.plan_theory.proofs.CycleLaws.{stops_closes, closes_stops}

-- ---- read_plan

module _ (n : ℕ) (s : Lent) (plan : List ℕ) (r : Answer) (t : Lent) (h : ReadPlan n s plan r t) where
  -- what the checks before the first record find, decides
  found : (k : ℕ) → First (read_conditions n s plan) k → r ≡ read_answer n s plan k
  found k f =
      h.answers
      ∙ ap (read_answer n s plan) (first_only (read_conditions n s plan) h.k k h.first f)

  -- 1, 2, 9 and 13 have the place 0
  pub read_early : (k : ℕ) → ¬ (k ≡ 0) → First (read_conditions n s plan) k → r ≡ answer k 0 0
  read_early k d f = found k f ∙ decided_old k _ _ d

  -- a refused plan changes no word, and has the value 0
  pub read_refused : ¬ (r.number ≡ 0) → (t ≡ s) × (r.value ≡ 0)
  read_refused d = (h.leaves ∙ decided_old r.number _ s d, go h.k h.answers)
    where
      go : (k : ℕ) → r ≡ read_answer n s plan k → r.value ≡ 0
      go zero e = ap (λ (x : Answer). x.value) e ∙ decided_old (applied_plan n s plan).number _ 0 (λ z. d (ap (λ (x : Answer). x.number) e ∙ z))
      go (suc k) e = ap (λ (x : Answer). x.value) e

  -- an accepted one has passed the checks
  accepted_first : r.number ≡ 0 → First (read_conditions n s plan) 0
  accepted_first z =
      elim (ℕ_discrete h.k 0) [
        | yes e ↦ subst (First (read_conditions n s plan)) e h.first
        | no d ↦ absurd (d (sym (ap (λ (x : Answer). x.number) (read_early h.k d h.first)) ∙ z))
      ]

  -- ACCEPTED: what an accepted plan is
  pub read_accepted : r.number ≡ 0 → AcceptedPlan n s plan r t
  read_accepted z =
      let f = accepted_first z in
      let v = accepted_valid n s (BadPlan plan gives 13 ∷ []) f in
      let p = applied_plan n s plan in
      let none : p.number ≡ 0 = sym (ap (λ (x : Answer). x.number) (found 0 f)) ∙ z in
      let words : t ≡ p.left = h.leaves ∙ decided_new r.number p.left s z in
      let a = applied_after n (records plan) s 1 none in
      let b = applied_taken n (records plan) (opened n s) s 1 (valid_modelled v) refl none in
      let w = whole_list n s (record { reply = answer 0 0 1; validated = valid_validates n s v; one = refl }) (edits n (records plan)) in
      let q = taken_run n (records plan) (opened n s) b.0 refl b.1 in
      record {
        valid_before = v;
        leaves = words ∙ a.0;
        whole_list = w;
        accepted = a.1;
        model = b.0;
        taken = b.1;
        run = subst (λ x. Run (opened n s) (edits n (records plan)) x b.0) (w.only q.0 b.0 q.1).0 q.1;
        fresh = subst (Fresh b.0) (sym words) b.2.fresh;
        valid_after = subst (Valid n) (sym words) (subst (λ x. Valid x p.left) b.3 (modelled_valid b.2));
        answered = found 0 f
            ∙ ap₂ (λ (k q : ℕ). answer k q (decided k (set_bits n p.left.words) 0)) none (applied_place n (records plan) s 1 none)
            ∙ ap (λ (x : Lent). answer 0 0 (set_bits n x.words)) (sym words);
      }

  module _ (f : First (read_conditions n s plan) 0) where
    first_stops : ¬ (r.number ≡ 0) → Stops (opened n s) (records plan) r.number r.place
    first_stops d =
        let e = found 0 f in
        rw e (applied_stops n (records plan) (opened n s) s (valid_modelled (accepted_valid n s (BadPlan plan gives 13 ∷ []) f)) refl (rw e at d))

    -- ONCE THE CHECKS PASS, a plan is accepted exactly if the model takes all its records
    pub read_accepted_iff : (r.number ≡ 0) ↔ ((m : Model) × Taken (opened n s) (records plan) m)
    read_accepted_iff = (
      λ z. let a = read_accepted z in (a.model, a.taken),
      λ x. elim (ℕ_discrete r.number 0) [
        | yes z ↦ z
        | no d ↦ absurd (taken_not_stops (records plan) (opened n s) x.0 _ _ x.1 (first_stops d))
      ],
    )

    -- and refused by k at the place p exactly if the model stops there
    pub read_stops_iff : (k p : ℕ) → ¬ (k ≡ 0) → ((r.number ≡ k) × (r.place ≡ p)) ↔ Stops (opened n s) (records plan) k p
    read_stops_iff k p d = (
      λ e. rw (← e.0, ← e.1) (first_stops (rw e.0 d)),
      λ o.
          let c : ¬ (r.number ≡ 0) = λ z. let a = read_accepted z in taken_not_stops (records plan) (opened n s) a.model k p a.taken o in
          stops_only (records plan) (opened n s) _ _ k p (first_stops c) o,
    )

    -- where it is refused by 14, the 8 bytes at the place are not of the form
    pub read_malformed : r.number ≡ 14 → (k : ℕ) × (r.place ≡ suc k) × (8 * suc k ≤ length plan) × (¬ (OfForm (take 8 (drop (8 * k) plan))))
    read_malformed z = stops_malformed (opened n s) plan r.place ((read_stops_iff 14 r.place (λ e. omega (arith, e))).0 (z, refl))

    -- CYCLES: it is refused by 8 exactly if its first record that the model refuses inserts an edge that closes a cycle
    pub read_cycle_iff : (r.number ≡ 8) ↔ ClosesAt (opened n s) (records plan)
    read_cycle_iff = (
      λ z. stops_closes (opened n s) (records plan) r.place ((read_stops_iff 8 r.place (λ e. omega (arith, e))).0 (z, refl)),
      λ c. ((read_stops_iff 8 (suc (length c.before)) (λ e. omega (arith, e))).1 (closes_stops (opened n s) (records plan) (first_past f).0 c)).0,
    )

-- the contract leaves nothing open: it fixes the answer and every word
pub read_only : (n : ℕ) (s : Lent) (plan : List ℕ) (r r' : Answer) (t t' : Lent) → ReadPlan n s plan r t → ReadPlan n s plan r' t' → (r ≡ r') × (t ≡ t')
read_only n s plan r r' t t' h h' =
    let e = h.answers ∙ sym (found n s plan r' t' h' h.k h.first) in
    (e, h.leaves ∙ ap (read_after n s plan) e ∙ sym h'.leaves)

-- the empty plan is accepted on every valid sheet, and changes nothing
pub read_empty : (n : ℕ) (s : Lent) (r : Answer) (t : Lent) → Valid n s → ReadPlan n s [] r t → (r ≡ answer 0 0 (set_bits n s.words)) × (t ≡ s)
unfolding gather applied
read_empty n s r t v h =
    let few : ¬ (BadPlan []) = λ c. elim c [ inl d ↦ d refl | inr l ↦ omega (arith, l) ] in
    let e = found n s [] r t h 0 (valid_passed n s v (BadPlan [] gives 13 ∷ []) 0 (inr (few, refl))) in
    (e, h.leaves ∙ ap (λ (x : Answer). decided x.number s s) e)

-- ---- write_plan

module _ (n : ℕ) (s : Lent) (p : List ℕ) (r : Answer) (q : List ℕ) (h : WritePlan n s p r q) where
  -- where it refuses, the buffer is as it was
  pub write_refused : ¬ (r.number ≡ 0) → (q ≡ p) × (r.value ≡ 0)
  write_refused d = (h.bytes ∙ decided_old r.number (written (plan_of n s) p) p d, h.value ∙ decided_old r.number (length (plan_of n s)) 0 d)

  -- where it does not refuse, the value counts the bytes of the plan, and these stand first in the buffer
  pub write_taken : r.number ≡ 0 → take r.value q ≡ plan_of n s
  write_taken z = rw (h.value, h.bytes, z) (written_first (plan_of n s) p)

  -- the contract leaves nothing open
  pub write_only : (r' : Answer) (q' : List ℕ) → WritePlan n s p r' q' → (r ≡ r') × (q ≡ q')
  write_only r' q' h' =
      let e : r.number ≡ r'.number = first_only (write_conditions n s (length p)) r.number r'.number h.number h'.number in (
        answer_ext r r' e (h.place ∙ sym h'.place) (h.value ∙ ap (λ (k : ℕ). decided k (length (plan_of n s)) 0) e ∙ sym h'.value),
        h.bytes ∙ ap (λ (k : ℕ). decided k (written (plan_of n s) p) p) e ∙ sym h'.bytes,
      )
