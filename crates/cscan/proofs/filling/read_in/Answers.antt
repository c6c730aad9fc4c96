use Rattle.std.proofs.Common.{◌≡◌, ◌∙◌, ◌*◌, ℕ, List, Option, Some, length, arith, sym, ap, subst, rules}
use Rattle.coop_outside.specs.Pieces.{ReadsPiece}
use Rattle.frame_pool.specs.declared.view.Fill.{Fill}
use Rattle.frame_pool.specs.Berths.{BerthView, IsAt, IsIdleAt, IsOf, IsWhole, fills, fills_none}
use Rattle.frame_pool.specs.Views.{filling, pinned}
use Rattle.piece_format.specs.Bytes.{word_of}
use Rattle.piece_format.proofs.Sizes.{words-within}
use Rattle.frame_rows.specs.Tables.{first_words}
use Rattle.frame_rows.proofs.Tables.{holds_piece, whole_words}
use Rattle.cscan.proofs.filling.read_in.Goals as goal
use Rattle.cscan.proofs.filling.read_in.Goals.{After-claim, Start}

-- the berth pins nothing and fills nothing
idle : (g : _) (c : Start g) → IsIdleAt c.args.berth.now c.args.slot.0
idle g c = (ap (pinned c.args.slot.0) c.requires.blank.0, c.requires.blank.1)

-- it fills the frame
claimed : (g : _) (c : After-claim g) → c.claim.new.berth ≡ fills c.args.berth.now c.args.slot.0
claimed g c = c.claim.ensures ∙ ap (λ (b : BerthView). fills b c.args.slot.0) c.mark.ensures

-- it is the pool's
of_pool : (g : _) (c : After-claim g) → IsOf c.args.pool.now c.claim.new.berth
of_pool g c = subst (IsOf c.args.pool.now) (sym (claimed g c)) c.requires.at.0

-- without its fill it is as it was
given_up : (g : _) (c : After-claim g) → fills_none c.claim.new.berth ≡ c.args.berth.now
given_up g c = ap fills_none (claimed g c) ∙ ap (λ (f : Option Fill). record c.args.berth.now { fill = f }) (sym c.requires.blank.1)

pub mark-requires-clause-at : goal.mark-requires-clause-at
mark-requires-clause-at g c = c.requires.at

pub mark-requires-clause-idle : goal.mark-requires-clause-idle
mark-requires-clause-idle g c = idle g (goal.at.mark-requires-clause-idle g c).Start

pub claim-requires-clause-at : goal.claim-requires-clause-at
claim-requires-clause-at g c = subst (λ (b : BerthView). IsAt c.args.pool.now b c.args.slot.0) (sym c.mark.ensures) c.requires.at

pub claim-requires-clause-idle : goal.claim-requires-clause-idle
claim-requires-clause-idle g c = subst (λ (b : BerthView). IsIdleAt b c.args.slot.0) (sym c.mark.ensures) (idle g (goal.at.claim-requires-clause-idle g c).Start)

pub abandon-requires-clause-at : goal.abandon-requires-clause-at
abandon-requires-clause-at g c = of_pool g (goal.at.abandon-requires-clause-at g c).After-claim

pub returns-then-is_err-clause-berth : goal.returns-then-is_err-clause-berth
returns-then-is_err-clause-berth g c = c.abandon.ensures ∙ given_up g (goal.at.returns-then-is_err-clause-berth g c).After-claim

pub check-requires-clause-shape : goal.check-requires-clause-shape
check-requires-clause-shape g c = c.requires.shape

pub check-requires-clause-there : goal.check-requires-clause-there
check-requires-clause-there g c = c.requires.there

pub abandon-requires-in-Err-clause-at : goal.abandon-requires-in-Err-clause-at
abandon-requires-in-Err-clause-at g c = of_pool g (goal.at.abandon-requires-in-Err-clause-at g c).After-claim

pub put_all-requires-clause-of : goal.put_all-requires-clause-of
put_all-requires-clause-of g c = of_pool g (goal.at.put_all-requires-clause-of g c).After-claim

pub put_all-requires-clause-fill : goal.put_all-requires-clause-fill
put_all-requires-clause-fill g c = ap (λ (b : BerthView). b.fill) (claimed g (goal.at.put_all-requires-clause-fill g c).After-claim)

pub publish-requires-clause-at : goal.publish-requires-clause-at
publish-requires-clause-at g c = subst (IsOf c.args.pool.now) (sym c.put_all.ensures) (of_pool g (goal.at.publish-requires-clause-at g c).After-claim)

pub returns-clause-berth : goal.returns-clause-berth
returns-clause-berth g c = c.publish.ensures ∙ (ap fills_none c.put_all.ensures ∙ given_up g (goal.at.returns-clause-berth g c).After-claim)

pub get-requires-clause-there : goal.get-requires-clause-there
get-requires-clause-there g c =
    holds_piece (g.D.Depot.held c.args.depot.now) g.C.Content.pieces c.args.shape.now c.args.slot.1 (length c.args.bytes.now) c.requires.alike c.requires.there c.requires.bytes

pub check-requires-clause-bytes : goal.check-requires-clause-bytes
check-requires-clause-bytes g c = c.get.auto.buf ∙ c.requires.bytes

pub put_all-requires-clause-room : goal.put_all-requires-clause-room
put_all-requires-clause-room g c = omega (arith, words-within c.args.shape.now c.args.slot.1, c.requires.room, c.piece_words.ensures)

pub put_all-requires-clause-bytes : goal.put_all-requires-clause-bytes
put_all-requires-clause-bytes g c = c.get.auto.buf ∙ (c.requires.bytes ∙ ap (λ n. 8 * n) (sym c.piece_words.ensures))

pub publish-requires-clause-whole : goal.publish-requires-clause-whole
publish-requires-clause-whole g c =
    let z = c.args.shape.now in
    let f : ℕ = c.args.slot.0 in
    let p : ℕ = c.args.slot.1 in
    let buf : List ℕ = c.get.new.buf in
    let reads : ReadsPiece (g.D.Depot.held c.args.depot.now) p buf = search rules in
    let is = ap (λ b. b.fill) c.put_all.ensures ∙ ap (λ (n : ℕ). Some (filling f (first_words (word_of buf) n))) c.piece_words.ensures in
    subst (λ (fill : Option Fill). IsWhole g.C.Content.pieces p fill) (sym is)
    (whole_words (g.D.Depot.held c.args.depot.now) g.C.Content.pieces z p f buf c.requires.alike c.requires.there reads)
