-- Only one answer, and one buffer afterwards, meet what the page `EveryCall` says of supply without an edge, of the path of a rank and of the
-- rank of a path. Assumes nothing.
use mathlib.Core.Path.{◌≡◌, sym, ap, ◌∙◌}
use mathlib.Core.List.{List}
use Prim.Native.Nat.{ℕ, ◌<◌}
use native.Mathlib.Decide.{dec_lt}
use native.Mathlib.Omega.{arith}
use lib.ListN.{length, get_or}
use lib.Seq.{ext_get_or}
use Rattle.answer.specs.declared.Answer.{Answer}
use Rattle.sheet_theory.specs.Lent.{Lent}
use Rattle.query_theory.proofs.InWords.{walked_words}
use Rattle.starred.specs.EveryCall.{IsWalk, Rest}
use Rattle.starred.proofs.QueryFields.{SaidOfReachesWithout, SaidOfUnrank, SaidOfRank}
use Rattle.starred.proofs.AnswersOnly.{answers_only, tells_only, calls_only}

-- bytes that begin with the vertices of p, and from there on are as before, are known
bytes_after_only : (p before after other : List ℕ) → Rest (length p) before after → ((x : ℕ) → x < length p → get_or after x 0 ≡ get_or p x 0)
    → Rest (length p) before other → ((x : ℕ) → x < length p → get_or other x 0 ≡ get_or p x 0) → after ≡ other
bytes_after_only p before after other a x b y =
    ext_get_or 0 after other (a.0 ∙ sym b.0) (λ z h.
    elim (dec_lt z (length p)) [ yes l ↦ x z l ∙ sym (y z l) | no l ↦ a.1 z (omega (arith, l)) ∙ sym (b.1 z (omega (arith, l))) ])

module _ (n : ℕ) (s : Lent) where
  pub reaches_without_line_only : (i j u v : ℕ) (r w : Answer) → SaidOfReachesWithout n s i j u v r → SaidOfReachesWithout n s i j u v w → r ≡ w
  reaches_without_line_only i j u v r w a b = answers_only a.0 b.0 (tells_only r w _)

  -- the walk by a rank is one
  walks_only : (i j k : ℕ) (p q : List ℕ) → IsWalk n s i j k p → IsWalk n s i j k q → p ≡ q
  walks_only i j k p q a b = sym ((walked_words n s i j k p).1 a).0 ∙ ((walked_words n s i j k q).1 b).0

  pub unrank_line_only : (i j k : ℕ) (before : List ℕ) (r w : Answer) (after other : List ℕ)
      → SaidOfUnrank n s i j k before r after → SaidOfUnrank n s i j k before w other → (r ≡ w) × (after ≡ other)
  unrank_line_only i j k before r w after other a b =
      calls_only a.0 (a.0.accepted, a.1) b.0 (b.0.accepted, b.1)
      (λ z x y. let e = walks_only i j k y.0 x.0 y.1 x.1 in bytes_after_only x.0 before after other x.4 x.5 (rw e at y.4) (rw e at y.5))
      (λ e x y. x.2 ∙ ap length (walks_only i j k x.0 y.0 x.1 y.1) ∙ sym y.2)

  pub rank_line_only : (p : List ℕ) (r w : Answer) → SaidOfRank n s p r → SaidOfRank n s p w → r ≡ w
  rank_line_only p r w a b = answers_only a.0 b.0 (λ x y. x ∙ sym y)
