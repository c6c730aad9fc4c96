use Rattle.std.proofs.Common.{subst}
use Rattle.std.specs.Result.{IfErr, OnOk}
use Rattle.std.proofs.lemmas.Result.{on_ok_weaker}
use Rattle.piece_format.specs.declared.pieces.Piece.{Piece}
use Rattle.piece_format.specs.Broken.{AreSoundCells, IsLeastBroken}
use Rattle.piece_format.specs.Bytes.{word_of}
use Rattle.piece_format.specs.Shape.{IsPiece, piece_at}
use Rattle.piece_format.proofs.Back.{encoded_sound, is_ok, sound_cells}
use Rattle.piece_format.proofs.checking.check.Goals as goal

pub returns-clause-cells : goal.returns-clause-cells
returns-clause-cells c =
    let s = c.args.shape.now in
    let word = word_of c.args.bytes.now in
    subst (λ (q : Piece). OnOk c.check_piece.result (AreSoundCells s q word)) c.of.ensures.piece
    (on_ok_weaker c.check_piece.result (sound_cells s c.of.result word) c.check_piece.ensures.ok)

pub returns-clause-encoded : goal.returns-clause-encoded
returns-clause-encoded c = λ rows are is.
    let s = c.args.shape.now in
    let word = word_of c.args.bytes.now in
    let p = c.args.piece in
    is_ok s (piece_at s p) word c.check_piece.result
    (subst (λ (q : Piece). IfErr c.check_piece.result (λ d. IsLeastBroken s q word d.word)) c.of.ensures.piece c.check_piece.ensures.err)
    (encoded_sound s rows p c.args.bytes.now (subst IsPiece c.of.ensures.piece c.of.ensures.small) are is)
