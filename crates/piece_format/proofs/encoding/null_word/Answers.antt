use Rattle.std.proofs.Common.{◌+◌, ◌^◌, if◌then◌else◌, ℕ, Bool, get_or, refl, arith, sym, ap, ◌∙◌}
use Rattle.table_core.specs.Columns.{column_cells}
use Rattle.table_core.specs.declared.cell.Cell.TheVariants.{Null}
use Rattle.piece_format.specs.Cells.{is_null}
use Rattle.piece_format.specs.Words.{bits}
use Rattle.piece_format.proofs.Bits.{bits-lt, bits-more}
use Rattle.piece_format.proofs.encoding.null_word.Goals as goal

pub loop-b-init : goal.loop-b-init
unfolding bits
loop-b-init c = refl

pub with_bit-word-requires-clause-word : goal.with_bit-word-requires-clause-word
with_bit-word-requires-clause-word c = omega (arith, c.loop-b.invariant, bits-lt (λ b. is_null (get_or (column_cells c.args.column.now) (c.args.from + b) Null)) c.loop-b.b)

pub loop-b-preserved : goal.loop-b-preserved
loop-b-preserved c =
    let p : ℕ → Bool = λ b. is_null (get_or (column_cells c.args.column.now) (c.args.from + b) Null) in
    c.with_bit-word.ensures.word
    ∙ ap (λ n. n + (if c.is_null_at.result then 2 ^ c.loop-b.b else 0)) c.loop-b.invariant
    ∙ ap (λ t. bits p c.loop-b.b + (if t then 2 ^ c.loop-b.b else 0)) c.is_null_at.ensures
    ∙ sym (bits-more p c.loop-b.b)
