-- The laws of the lines of a listing: pieces put one after the other make a line, the lines from each vertex make all lines; and how long
-- they are at most. Assumes nothing.
use mathlib.Core.Path.{◌≡◌, sym, ap, ap₂, subst, ◌∙◌}
use mathlib.Core.Bool.{Bool, true, false, cond, not, ◌&&◌, and-false}
use mathlib.Core.Logic.{◌⊎◌, inl, inr}
use mathlib.Core.List.{List, [], ◌∷◌, ◌++◌, append_assoc}
use Prim.Native.Nat.{ℕ, ◌+◌, ◌*◌, ◌/◌, ◌%◌, ◌≤◌, ◌<◌}
use native.Mathlib.Omega.{arith}
use borrow.Author.Tests.{eq-eqb, ne_eqb, lt-ltb, le-ltb}
use lib.Dec.{ltb, eqb}
use lib.ListN.{length, length-append}
use Rattle.sums.specs.Gather.{gather}
use Rattle.sums.proofs.GatherLaws.{gather_nested, gather_bound}
use Rattle.text.specs.Text.{two_digits, Put}
use Rattle.text.proofs.TextLaws.{put_none, put_length, put_more}
use Rattle.answer.specs.declared.Answer.{Answer}
use Rattle.answer.specs.Answers.{decided}
use Rattle.sheet_theory.specs.Layout.{most_vertices, count_at}
use Rattle.sheet_theory.specs.Lent.{Lent}
use Rattle.answer.proofs.AnswerLaws.{decided_old}
use Rattle.listing_theory.specs.Lines.{decimal, pipes_label, pipes_line, record_label, refused_label, refused_line, count_line, pair_line, lines_from, count_lines, printed}
use Rattle.listing_theory.proofs.DecimalLaws.{decimal_le}

-- ---- one line: a label and a decimal, and then more

pub labelled_put : (out : List ℕ) (at : ℕ) (b l : List ℕ) (p x : ℕ) (m : List ℕ) (q : ℕ) → Put out at b l p → Put l p (decimal x) m q
    → at + length (b ++ decimal x) ≤ length out → Put out at (b ++ decimal x) m q
labelled_put out at b l p x m q labelled numbered h =
    put_more out at b l p labelled (decimal x) m q (omega (arith, length-append b (decimal x))) numbered

labelled_more : (out : List ℕ) (at : ℕ) (b : List ℕ) (x : ℕ) (l : List ℕ) (p : ℕ) → Put out at (b ++ decimal x) l p
    → (c m : List ℕ) (q : ℕ) → Put l p c m q → at + length (b ++ (decimal x ++ c)) ≤ length out → Put out at (b ++ (decimal x ++ c)) m q
labelled_more out at b x l p labelled c m q more h =
    let e : length (b ++ (decimal x ++ c)) ≡ length (b ++ decimal x) + length c
    = ap length (sym (append_assoc b (decimal x) c)) ∙ length-append (b ++ decimal x) c in
    rw append_assoc at (put_more out at (b ++ decimal x) l p labelled c m q (omega arith) more)

pub pipes_put : (out : List ℕ) (at x : ℕ) (l : List ℕ) (p : ℕ) → Put out at (pipes_label ++ decimal x) l p
    → (m : List ℕ) (q : ℕ) → Put l p (10 ∷ []) m q → at + length (pipes_line x) ≤ length out → Put out at (pipes_line x) m q
pipes_put out at x l p labelled m q fed h = labelled_more out at pipes_label x l p labelled (10 ∷ []) m q fed h

pub refused_put : (out : List ℕ) (at k : ℕ) (l : List ℕ) (p : ℕ) → Put out at (record_label ++ decimal k) l p
    → (r : ℕ) (m : List ℕ) (q : ℕ) → Put l p (refused_label ++ decimal r) m q
    → (o : List ℕ) (e : ℕ) → Put m q (10 ∷ []) o e → at + length (refused_line k r) ≤ length out → Put out at (refused_line k r) o e
refused_put out at k l p first r m q second o e fed h =
    let rest : List ℕ = refused_label ++ (decimal r ++ (10 ∷ [])) in
    let fits : at + length (record_label ++ decimal k) + length rest ≤ length out = omega (arith, length-append (decimal k) rest) in
    let long : length l ≡ length out = put_length out at (record_label ++ decimal k) l p first (omega arith) in
    labelled_more out at record_label k l p first rest o e
    (labelled_more l p refused_label r m q second (10 ∷ []) o e fed (omega (arith, first.place))) h

-- the bytes before the count: both vertices, a space after each
abbrev ends : ℕ → ℕ → List ℕ
ends i j = two_digits i ++ (32 ∷ two_digits j ++ (32 ∷ []))

ends_of : (i j a b c d : ℕ) → a ≡ 48 + i / 10 → b ≡ 48 + i % 10 → c ≡ 48 + j / 10 → d ≡ 48 + j % 10 → a ∷ b ∷ 32 ∷ c ∷ d ∷ 32 ∷ [] ≡ ends i j
ends_of i j a b c d ea eb ec ed = rw (ea, eb, ec, ed)

pub count_put : (i j a b c d : ℕ) → a ≡ 48 + i / 10 → b ≡ 48 + i % 10 → c ≡ 48 + j / 10 → d ≡ 48 + j % 10
    → (out : List ℕ) (at x : ℕ) (l : List ℕ) (p : ℕ) → Put out at ((a ∷ b ∷ 32 ∷ c ∷ d ∷ 32 ∷ []) ++ decimal x) l p
    → (m : List ℕ) (q : ℕ) → Put l p (10 ∷ []) m q → at + length (count_line i j x) ≤ length out → Put out at (count_line i j x) m q
count_put i j a b c d ea eb ec ed out at x l p labelled m q fed h =
    labelled_more out at (ends i j) x l p (subst (λ (y : List ℕ). Put out at (y ++ decimal x) l p) (ends_of i j a b c d ea eb ec ed) labelled)
    (10 ∷ []) m q fed h

-- ---- the line of a pair: there is one exactly if the two differ and have a count above 0

module _ (s : List ℕ) (i j : ℕ) where
  pub pair_hidden : (i ≡ j) ⊎ (count_at most_vertices s i j ≡ 0) → pair_line s i j ≡ []
  unfolding pair_line
  pair_hidden h = ap (λ (t : Bool). cond t (count_line i j (count_at most_vertices s i j)) []) (hidden h)
    where
      hidden : (i ≡ j) ⊎ (count_at most_vertices s i j ≡ 0) → not (eqb i j) && ltb 0 (count_at most_vertices s i j) ≡ false
      hidden (inl e) = ap (λ (t : Bool). not t && ltb 0 (count_at most_vertices s i j)) (eq-eqb i j e)
      hidden (inr z) = ap (λ (t : Bool). not (eqb i j) && t) (le-ltb 0 (count_at most_vertices s i j) (omega arith)) ∙ and-false (not (eqb i j))

  pub pair_shown : (i ≡ j → ⊥) → 0 < count_at most_vertices s i j → pair_line s i j ≡ count_line i j (count_at most_vertices s i j)
  unfolding pair_line
  pair_shown d h =
      ap (λ (t : Bool). cond t (count_line i j (count_at most_vertices s i j)) [])
      (ap₂ (λ (t u : Bool). not t && u) (ne_eqb i j d) (lt-ltb 0 (count_at most_vertices s i j) h))

  module _ (c : ℕ) (ec : c ≡ count_at most_vertices s i j) (out : List ℕ) (at : ℕ) where
    passed : (i ≡ j) ⊎ (count_at most_vertices s i j ≡ 0) → Put out at (pair_line s i j) out at
    passed h = subst (λ (y : List ℕ). Put out at y out at) (sym (pair_hidden h)) (put_none out at)

    -- nothing is put where the two are the same or have no path
    pub pair_same : i ≡ j → Put out at (pair_line s i j) out at
    pair_same e = passed (inl e)

    pub pair_none : c ≡ 0 → Put out at (pair_line s i j) out at
    pair_none z = passed (inr (sym ec ∙ z))

    module _ (d : i ≡ j → ⊥) (z : c ≡ 0 → ⊥) where
      shown : pair_line s i j ≡ count_line i j c
      shown = pair_shown d (let above : 0 < count_at most_vertices s i j = omega (arith, z) in above) ∙ ap (count_line i j) (sym ec)

      pub pair_room : at + length (pair_line s i j) ≤ length out → at + length (count_line i j c) ≤ length out
      pair_room h = rw shown at h

      pub pair_put : (l : List ℕ) (p : ℕ) → Put out at (count_line i j c) l p → Put out at (pair_line s i j) l p
      pair_put l p u = subst (λ (y : List ℕ). Put out at y l p) (sym shown) u

-- ---- all lines: of the 64 × 64 pairs, ascending, the one at k is k / 64 and k % 64

pub lines_ascending : (s : List ℕ) → count_lines s ≡ gather (most_vertices * most_vertices) (λ k. pair_line s (k / most_vertices) (k % most_vertices))
unfolding count_lines lines_from
lines_ascending s = gather_nested most_vertices most_vertices (pair_line s) (omega arith)

-- ---- how long the lines are

pub pipes_le : (x : ℕ) → length (pipes_line x) ≤ 27
pipes_le x = omega (arith, decimal_le x, length-append (decimal x) (10 ∷ []))

pub refused_le : (k r : ℕ) → length (refused_line k r) ≤ 57
refused_le k r =
    let rest : List ℕ = refused_label ++ (decimal r ++ (10 ∷ [])) in
    omega (arith, decimal_le k, decimal_le r, length-append (decimal k) rest, length-append (decimal r) (10 ∷ []))

pair_le : (s : List ℕ) (i j : ℕ) → length (pair_line s i j) ≤ 27
unfolding pair_line
pair_le s i j = go (not (eqb i j) && ltb 0 (count_at most_vertices s i j))
  where
    go : (t : Bool) → length (cond t (count_line i j (count_at most_vertices s i j)) []) ≤ 27
    go true = omega (arith, decimal_le (count_at most_vertices s i j), length-append (decimal (count_at most_vertices s i j)) (10 ∷ []))
    go false = omega arith

lines_from_le : (s : List ℕ) (i : ℕ) → length (lines_from s i) ≤ most_vertices * 27
unfolding lines_from
lines_from_le s i = gather_bound most_vertices (pair_line s i) 27 (λ j hj. pair_le s i j)

pub lines_le : (s : List ℕ) → length (count_lines s) ≤ most_vertices * (most_vertices * 27)
unfolding count_lines
lines_le s = gather_bound most_vertices (lines_from s) (most_vertices * 27) (λ i hi. lines_from_le s i)

-- ---- what is printed of a plan that is answered with r and has left s

module _ (r : Answer) (s : Lent) (out l : List ℕ) (p : ℕ) where
  pub printed_refused : (r.number ≡ 0 → ⊥) → Put out 0 (refused_line r.place r.number) l p → Put out 0 (printed r s) l p
  printed_refused d u = subst (λ (y : List ℕ). Put out 0 y l p) (sym (decided_old r.number _ _ d)) u

  pub printed_accepted : r.number ≡ 0 → Put out 0 (pipes_line r.value) l p → (m : List ℕ) (q : ℕ) → Put l p (count_lines s.words) m q
      → 27 ≤ length out → Put out 0 (printed r s) m q
  printed_accepted z first m q rest h =
      let e : pipes_line r.value ++ count_lines s.words ≡ printed r s
      = ap (λ (k : ℕ). decided k (pipes_line r.value ++ count_lines s.words) (refused_line r.place r.number)) (sym z) in
      subst (λ (y : List ℕ). Put out 0 y m q) e
      (put_more out 0 (pipes_line r.value) l p first (count_lines s.words) m q (omega (arith, pipes_le r.value)) rest)
