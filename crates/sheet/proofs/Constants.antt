-- The constants of the sheet's type are document 01's numbers. Assumes nothing.
use mathlib.Core.Path.{◌≡◌, refl}
use Rattle.sheet.specs.declared.layout.TheConstants.Sheet.{VERTICES, WORDS, EDGES}

-- 64 vertices, 4,160 words and 2,016 edges: the numbers of which `every_call` says that they are the greatest of a valid sheet
pub constants : (VERTICES ≡ 64) × (WORDS ≡ 4160) × (EDGES ≡ 2016)
constants = (refl, refl, refl)
