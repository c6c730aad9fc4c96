use Rattle.std.proofs.Common.{◌==◌, ◌%◌, ◌^◌, ◌∙◌, if◌then◌else◌, ℕ, nat_le, List, length, get_or, sym, ap, inl, inr}
use Rattle.std.specs.Int.{bit_at}
use Rattle.std.proofs.lemmas.Nat.Bits.{bit_at-lt, bit_at_or}
use Rattle.table_core.specs.declared.cell.Cell.TheVariants.{Null, Code}
use Rattle.table_core.specs.declared.schema.Kind.{Kind}
use Rattle.piece_format.specs.Cells.{cell_of}
use Rattle.piece_format.proofs.Bits.{bit_at-bits}
use Rattle.frame_rows.proofs.Blocks.{number_lane, text_lane}
use Rattle.frame_rows.proofs.lanes.held_by.Goals as goal

pub returns-in-Int : goal.returns-in-Int
returns-in-Int c i low =
    let len : ℕ = c.args.dict_len in let word : ℕ = get_or c.args.words.now i 0 in
    let cell = λ (k : Kind). cell_of k len (bit_at c.args.nulls i == 1) word in
    elim c.in-Int.is [
      | inl e ↦ (number_lane 0 len word (bit_at c.args.nulls i == 1)).0 ∙ ap cell (sym e)
      | inr d ↦ (number_lane d.0 len word (bit_at c.args.nulls i == 1)).1 ∙ ap cell (sym d.1)
    ]

pub returns-in-Text : goal.returns-in-Text
returns-in-Text c i low =
    let words : List ℕ = c.args.words.now in
    let len : ℕ = c.args.dict_len in let word : ℕ = get_or words i 0 in
    let nulls : ℕ = c.args.nulls in let more : ℕ = c.no_codes.result in
    ap (λ (b : ℕ). if b == 1 then Null else Code (word % 2 ^ 32)) (bit_at_or nulls more i)
    ∙ (text_lane len word (bit_at nulls i) (bit_at more i) c.ranges.dict_len.fits (bit_at-lt nulls i) (bit_at-lt more i)
    (ap (λ (n : ℕ). bit_at n i == 1) c.no_codes.ensures ∙ bit_at-bits (λ j. nat_le len (get_or words j 0)) (length words) i low)
    ∙ ap (λ (k : Kind). cell_of k len (bit_at nulls i == 1) word) (sym c.in-Text.is))
