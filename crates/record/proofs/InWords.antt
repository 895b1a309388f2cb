-- WHAT THE RECORDS ARE, spelled out in document 01's words: 8 bytes, the capital letter, a space, two digits, a space, two digits, a line
-- feed. A definition that is changed, together with the code that follows it, fails here. Assumes nothing.
use mathlib.Core.Path.{◌≡◌}
use mathlib.Core.Logic.{inl, inr, ⊎_elim, ◌↔◌}
use mathlib.Core.List.{List, [], ◌∷◌}
use Prim.Native.Nat.{ℕ, ◌+◌, ◌*◌, ◌/◌, ◌%◌, ◌<◌}
use lib.ListN.{take, drop}
use Rattle.std.proofs.Common.{Ok, Err}
use Rattle.record.specs.declared.Record.TheVariants.{Insert, Delete}
use Rattle.record.specs.Record.{OfForm, malformed}
use Rattle.record.specs.Reader.{record_at}
use Rattle.record.proofs.RecordLaws.{decoded_iff}

-- the record m of a plan
module _ (plan : List ℕ) (m : ℕ) where
  -- its bytes are those of a letter, u and v
  abbrev Form : ℕ → ℕ → ℕ → Type 0
  Form letter u v =
      (u < 100) × (v < 100)
      × (take 8 (drop (8 * m) plan) ≡ letter ∷ 32 ∷ (48 + u / 10) ∷ (48 + u % 10) ∷ 32 ∷ (48 + v / 10) ∷ (48 + v % 10) ∷ 10 ∷ [])

  -- L is 76, and T is 84
  pub insert_words : (u v : ℕ) → (record_at plan m ≡ Ok (Insert u v)) ↔ Form 76 u v
  insert_words u v = decoded_iff _ (Ok (Insert u v))

  pub delete_words : (u v : ℕ) → (record_at plan m ≡ Ok (Delete u v)) ↔ Form 84 u v
  delete_words u v = decoded_iff _ (Ok (Delete u v))

  -- all else is malformed
  pub malformed_words : (record_at plan m ≡ Err malformed) ↔ ((u v : ℕ) → (¬ (Form 76 u v)) × (¬ (Form 84 u v)))
  malformed_words =
      let e = decoded_iff (take 8 (drop (8 * m) plan)) (Err malformed) in (
        λ q u v. (λ f. e.0 q (u, v, inl f), λ f. e.0 q (u, v, inr f)),
        λ h. e.1 (λ (w : OfForm (take 8 (drop (8 * m) plan))). ⊎_elim (λ f. (h w.0 w.1).0 f) (λ f. (h w.0 w.1).1 f) w.2),
      )
