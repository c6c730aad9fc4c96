-- What is out: its slots, of which each is pinned and read.
use Rattle.std.proofs.Common.{◌≡◌, ◌≢◌, ◌==◌, ◌<◌, if◌then◌else◌, ◌+◌, ◌*◌, ◌/◌, ◌∙◌, ℕ, zero, suc, true, false, List, [], ◌∷◌, map, length, get_or, drop, arith, refl, sym, ap, subst}
use Rattle.std.proofs.lemmas.List.{length-map}
use Rattle.std.proofs.lemmas.Nat.{div-mul-add}
use Rattle.abm_policy.specs.Loads.{pieces}
use Rattle.frame_pool.specs.Berths.{BerthView, IsOf, PoolView}
use Rattle.frame_pool.specs.Frames.{Told}
use Rattle.frame_pool.specs.Views.{pinned}
use Rattle.piece_format.specs.Shape.{TableShape, chunk_of, groups, groups_in}
use Rattle.piece_format.specs.declared.layout.Layout.{Layout}
use Rattle.piece_format.specs.declared.layout.Layout.TheVariants as layouts
use Rattle.scan_story.specs.Counting.{has as is_among}
use Rattle.scan_story.specs.Setting.{columns_in, groups_read, need_of, piece_at}
use Rattle.scan_story.specs.Views.{History}
use Rattle.scan_story.specs.declared.setting.Setting.{Setting}
use Rattle.story_laws.proofs.Bools.{either, equal_number, if_here, if_not, not_both, or_left, or_off, or_right, same_number, self_number}
use Rattle.table_sets.specs.Sets.{has}
use Rattle.table_core.specs.declared.cell.Cell.{Cell}
use Rattle.frame_rows.specs.declared.given.Given.{Given}
use Rattle.frame_rows.specs.Framed.{ArePinned}
use Rattle.frame_rows.specs.Pins.{pins_of, slot_at}
use Rattle.frame_rows.specs.Blocks.{HasReadAll, HasReadSlots}
use Rattle.frame_rows.specs.Rows.{AreForPlaces, AreForSlots, AreOfColumns, IsForPlace, column_in, in_place}
use Rattle.cscan.specs.Scans.{HasColumns, IsGiven, ReadsColumns}
use Rattle.frame_rows.specs.Tables.{group_with, piece_with}
use Rattle.frame_rows.proofs.Pins.{pinned_at}
use Rattle.frame_rows.proofs.Rows.{column_groups}
use Rattle.row_blocks.specs.Blocks.{BlockView, row_at}
use Rattle.row_blocks.proofs.Rows.{length-row}
use Rattle.cscan.proofs.Scanning.{piece_read}

-- a piece among those of slots is that of some slot
slot_with : (slots : List (ℕ × ℕ)) (p : ℕ) → is_among (pieces slots) p ≡ true → (k : ℕ) × (k < length slots) × ((slot_at slots k).1 ≡ p)
slot_with [] p e = absurd (not_both false e refl)
slot_with (b ∷ bs) p e =
    either (b.1 == p) (is_among (pieces bs) p) e
    (λ t. (0, omega arith, same_number b.1 p t))
    (λ t. let r = slot_with bs p t in (suc r.0, omega (arith, r.1), r.2))

-- where the slots' pieces are made of a list, each slot's piece is made of an element
made_of : (f : ℕ → ℕ) (gs : List ℕ) (slots : List (ℕ × ℕ)) → pieces slots ≡ map f gs → (k : ℕ) → k < length slots → (g : ℕ) × (is_among gs g ≡ true) × ((slot_at slots k).1 ≡ f g)
made_of f gs [] e k low = absurd (omega (arith, low))
made_of f [] (b ∷ bs) e k low = absurd (let n = ap length e in omega (arith, n))
made_of f (g ∷ gs) (b ∷ bs) e zero low = (g, or_left (g == g) (is_among gs g) (self_number g), ap (λ (l : List ℕ). get_or l 0 0) e)
made_of f (g ∷ gs) (b ∷ bs) e (suc k) low =
    let r = made_of f gs bs (ap (drop 1) e) k (omega (arith, low)) in
    (r.0, or_right (g == r.0) (is_among gs r.0) r.1, r.2)

-- each slot's frame is pinned with its piece
pub slots_pinned : (s : Setting) (z : TableShape) (h : History) (q : ℕ) (given : Given) (pool : PoolView) (b : BerthView) → IsGiven s z h q given → s.frames ≡ pool.shape.frames → IsOf pool b → b.pins ≡ pins_of given.slots
    → ArePinned pool b given.slots
slots_pinned s z h q given pool b is frames of pins i low =
    let slots = given.slots in
    let f = is.frames.within i low in
    ((of, omega (arith, f, frames)), ap (pinned (slot_at slots i).0) pins ∙ pinned_at slots i (length slots) (length slots) low (omega arith) is.frames.apart)

-- a piece of no slot is not among the slots' pieces
pub none_has : (slots : List (ℕ × ℕ)) (p : ℕ) → ((k : ℕ) → k < length slots → (slot_at slots k).1 ≢ p) → is_among (pieces slots) p ≡ false
none_has [] p other = refl
none_has (b ∷ bs) p other =
    or_off (b.1 == p) (is_among (pieces bs) p) (if_not (b.1 == p) (λ t. other 0 (omega arith) (same_number b.1 p t))) (none_has bs p (λ k less. other (suc k) (omega (arith, less))))

-- a group that is read is one of the shape's columns, where there are several
group_below : (s : Setting) (z : TableShape) (q g : ℕ) → z.layout ≡ layouts.Column → s.groups ≡ groups z → HasColumns s z q → is_among (groups_read s q) g ≡ true → g < length z.kinds
group_below s z q g e same have reads =
    let wide = column_groups z e in
    elim (s.groups == 1) as (λ t. (s.groups == 1) ≡ t → is_among (if t then 0 ∷ [] else columns_in (need_of s q)) g ≡ true → g < length z.kinds) [
      | true ↦ λ one among. either (0 == g) false among (λ t. let n = same_number s.groups 1 one in let is = same_number 0 g t in omega (arith, n, is, same, wide)) (λ t. absurd (not_both false t refl))
      | false ↦ λ many among. have g among
    ] refl reads

-- in the column layout each slot has a piece of the chunk, that of a column
pub of_columns : (s : Setting) (z : TableShape) (h : History) (q : ℕ) (given : Given) → z.layout ≡ layouts.Column → s.groups ≡ groups z → HasColumns s z q → IsGiven s z h q given
    → AreOfColumns z given.chunk given.slots
of_columns s z h q given e same have is k low =
    let c : ℕ = given.chunk in
    let r = made_of (piece_at s c) (groups_read s q) given.slots is.read k low in
    let below = group_below s z q r.0 e same have r.1 in
    let piece : (slot_at given.slots k).1 ≡ c * length z.kinds + r.0 = r.2 ∙ ap (λ (n : ℕ). c * n + r.0) (same ∙ column_groups z e) in
    (omega (arith, piece), omega (arith, piece, below))

-- in the row layout there is one slot, which has the chunk's piece
pub row_slot : (s : Setting) (z : TableShape) (h : History) (q : ℕ) (given : Given) → z.layout ≡ layouts.Row → s.groups ≡ groups z → IsGiven s z h q given
    → (0 < length given.slots) × (chunk_of z (slot_at given.slots 0).1 ≡ given.chunk)
row_slot s z h q given e same is =
    let c : ℕ = given.chunk in
    let wide : groups z ≡ 1 = ap (λ (l : Layout). groups_in l (length z.kinds)) e in
    let one : s.groups ≡ 1 = same ∙ wide in
    let gs = groups_read s q in
    let alone : gs ≡ 0 ∷ [] = if_here (s.groups == 1) (0 ∷ []) (columns_in (need_of s q)) (equal_number s.groups 1 one) in
    let len : length given.slots ≡ length gs = sym (length-map given.slots (λ (b : ℕ × ℕ). b.1)) ∙ (ap length is.read ∙ length-map gs (piece_at s c)) in
    let some : 0 < length given.slots = (let n = ap length alone in omega (arith, len, n)) in
    let r = made_of (piece_at s c) gs given.slots is.read 0 some in
    let first : r.0 ≡ 0 = either (0 == r.0) false (ap (λ (l : List ℕ). is_among l r.0) (sym alone) ∙ r.1) (λ t. sym (same_number 0 r.0 t)) (λ t. absurd (not_both false t refl)) in
    let piece : (slot_at given.slots 0).1 ≡ c * 1 + 0 = r.2 ∙ ((λ i. c * one i + first i)) in
    (some, ap (λ (m : ℕ). (slot_at given.slots 0).1 / m) wide ∙ (ap (λ (p : ℕ). p / 1) piece ∙ div-mul-add c 1 0 (omega arith)))

-- where each slot is read, so is each place
pub all_slots : (s : Setting) (z : TableShape) (h : History) (q row : ℕ) (told : Told) (columns : List ℕ) (given : Given) (cells : List Cell) → z.layout ≡ layouts.Column → s.groups ≡ groups z → HasColumns s z q
    → IsGiven s z h q given → ReadsColumns s q columns → AreForSlots told z given.chunk row columns given.slots (length given.slots) cells → AreForPlaces told z given.chunk row columns (length cells) cells
all_slots s z h q row told columns given cells e same have is reads are x low =
    elim (has columns x) as (λ t. has columns x ≡ t → IsForPlace told z given.chunk row columns x (in_place cells x)) [
      | true ↦ λ named. (let c : ℕ = given.chunk in
          let read = piece_read s z q c x (reads x named) (have x (reads x named)) same in
          let p : ℕ = piece_with z c x in
          let r = slot_with given.slots p (ap (λ (ps : List ℕ). is_among ps p) is.read ∙ read) in
          let piece : p ≡ c * length z.kinds + x = (λ i. c * column_groups z e i + group_with (e i) x) in
          let column : column_in z c given.slots r.0 ≡ x = omega (arith, r.2, piece) in
          subst (λ (y : ℕ). IsForPlace told z c row columns y (in_place cells y)) column (are.first r.0 r.1))
      | false ↦ λ not. record { fits = λ named. absurd (not_both (has columns x) named not); other = λ _. are.others x low not; is = λ held rows table named. absurd (not_both (has columns x) named not) }
    ] refl

-- where the columns in all slots are read, so is each column
pub all_columns : (s : Setting) (z : TableShape) (h : History) (q first : ℕ) (told : Told) (columns : List ℕ) (given : Given) (b : BlockView) → z.layout ≡ layouts.Column → s.groups ≡ groups z → HasColumns s z q
    → IsGiven s z h q given → ReadsColumns s q columns → HasReadSlots told z given.chunk first columns given.slots (length given.slots) b → HasReadAll told z given.chunk first columns b
all_columns s z h q first told columns given b e same have is reads read = record {
  places = λ i x low inside.
      all_slots s z h q (first + i) told columns given (row_at b i) e same have is reads
      record { first = λ k below. read.places i (column_in z given.chunk given.slots k) low (k, below, refl); others = read.others i low }
      x (let n = length-row b i in omega (arith, inside, n));
  others = read.others;
}
