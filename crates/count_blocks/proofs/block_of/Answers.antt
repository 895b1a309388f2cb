-- `count_blocks::block_of` meets its contract: a word of 64 bits added to 0 is itself. Assumes nothing.
use Rattle.std.proofs.Common.{ℕ, get_or, ◌∙◌, ap, arith}
use lib.ListN.{length-replicate, get_or-replicate}
use Rattle.word.specs.Wrap.{plus}
use Rattle.sheet.proofs.WordsLaws.{combined_at}
use Rattle.count_blocks.proofs.block_of.Goals as goal

pub returns : goal.returns
returns c j h =
    let w = get_or c.args.words.now j 0 in
    combined_at plus _ _ _ _ c.combine_words.ensures j (omega (arith, c.requires)) (rw (length-replicate {A = ℕ} 16 0) h)
    ∙ ap (λ (x : ℕ). plus x w) (get_or-replicate {A = ℕ} 16 j 0 0 h) ∙ omega (arith, c.type_inv.words j)
