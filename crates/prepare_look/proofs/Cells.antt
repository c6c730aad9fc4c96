-- One cell in each column.
use Rattle.std.proofs.Common.{◌≡◌, ◌≢◌, ◌+◌, ◌*◌, ◌<◌, ◌≤◌, inl, inr, ℕ, true, false, List, length, refl, sym, ap, ◌∙◌, arith}
use Rattle.std.specs.Prelude.{[], slice_index_or, slice_set}
use Rattle.std.proofs.lemmas.Bool.Decides.{eqb_tells}
use Rattle.std.proofs.lemmas.List.{get_or-set_other, get_or-set_same, length-set}
use Rattle.prepare_look.specs.Kinds.{index_of, kind_of}
use Rattle.prepare_look.specs.Rows.{Row}
use Rattle.prepare_look.specs.Seeing.{is_kind, none_seen, noted, one_more}
use Rattle.prepare_look.specs.declared.seen.Seen.{Seen}

-- what the cells of the first columns became, and what those of the others were
pub record IsNoted (old : List Seen) (row : Row) (j : ℕ) (cells : List Seen) : Type 0 where
  pub sized : length cells ≡ length old
  pub others : (i : ℕ) → j * 25 ≤ i → slice_index_or cells i none_seen ≡ slice_index_or old i none_seen
  pub few : (i : ℕ) → (slice_index_or cells i none_seen).count ≤ (slice_index_or old i none_seen).count + 1
  pub kinds : (column kind : ℕ) → column < j → kind < 25
      → slice_index_or cells (column * 25 + kind) none_seen ≡ noted (is_kind column kind row) row.line (slice_index_or old (column * 25 + kind) none_seen)

more-count : (line : ℕ) (s : Seen) → (one_more line s).count ≡ s.count + 1
more-count line s = elim (eqb_tells s.count 0) [
  | inl zero ↦ rw zero.0 (omega (arith, zero.1))
  | inr not ↦ rw not.0 refl
]

set-few : (cells old : List Seen) (at line i : ℕ) → at < length cells → slice_index_or cells at none_seen ≡ slice_index_or old at none_seen
    → ((k : ℕ) → (slice_index_or cells k none_seen).count ≤ (slice_index_or old k none_seen).count + 1)
    → (slice_index_or (slice_set cells at (one_more line (slice_index_or cells at none_seen))) i none_seen).count ≤ (slice_index_or old i none_seen).count + 1
set-few cells old at line i lt same few = elim (eqb_tells i at) [
  | inl is ↦
      rw (is.1, get_or-set_same cells at (one_more line (slice_index_or cells at none_seen)) none_seen lt)
      (omega (arith, more-count line (slice_index_or cells at none_seen), ap (λ (s : Seen). s.count) same))
  | inr not ↦ rw (get_or-set_other cells at i (one_more line (slice_index_or cells at none_seen)) none_seen not.1) (few i)
]

-- the cell of this column and this kind
here : (cells old : List Seen) (row : Row) (j k0 : ℕ) → j * 25 + k0 < length cells → k0 ≡ index_of (kind_of (slice_index_or row.fields j []))
    → slice_index_or cells (j * 25 + k0) none_seen ≡ slice_index_or old (j * 25 + k0) none_seen
    → slice_index_or (slice_set cells (j * 25 + k0) (one_more row.line (slice_index_or cells (j * 25 + k0) none_seen))) (j * 25 + k0) none_seen
    ≡ noted (is_kind j k0 row) row.line (slice_index_or old (j * 25 + k0) none_seen)
here cells old row j k0 lt k same =
    let e : is_kind j k0 row ≡ true = elim (eqb_tells (index_of (kind_of (slice_index_or row.fields j []))) k0) [ inl is ↦ is.0 | inr not ↦ absurd (not.1 (sym k)) ] in
    rw (get_or-set_same cells (j * 25 + k0) (one_more row.line (slice_index_or cells (j * 25 + k0) none_seen)) none_seen lt, e, same) refl

-- another cell of this column
beside : (cells old : List Seen) (row : Row) (j k0 kind : ℕ) → kind ≢ k0 → k0 ≡ index_of (kind_of (slice_index_or row.fields j []))
    → slice_index_or cells (j * 25 + kind) none_seen ≡ slice_index_or old (j * 25 + kind) none_seen
    → slice_index_or (slice_set cells (j * 25 + k0) (one_more row.line (slice_index_or cells (j * 25 + k0) none_seen))) (j * 25 + kind) none_seen
    ≡ noted (is_kind j kind row) row.line (slice_index_or old (j * 25 + kind) none_seen)
beside cells old row j k0 kind other k same =
    let e : is_kind j kind row ≡ false = elim (eqb_tells (index_of (kind_of (slice_index_or row.fields j []))) kind) [ inl is ↦ absurd (other (sym is.1 ∙ sym k)) | inr not ↦ not.0 ] in
    let apart : j * 25 + kind ≢ j * 25 + k0 = λ h. other (omega (arith, h)) in
    rw (get_or-set_other cells (j * 25 + k0) (j * 25 + kind) (one_more row.line (slice_index_or cells (j * 25 + k0) none_seen)) none_seen apart, e, same) refl

-- a cell of a column before
before : (cells old : List Seen) (row : Row) (j k0 column kind : ℕ) → column < j → kind < 25
    → slice_index_or cells (column * 25 + kind) none_seen ≡ noted (is_kind column kind row) row.line (slice_index_or old (column * 25 + kind) none_seen)
    → slice_index_or (slice_set cells (j * 25 + k0) (one_more row.line (slice_index_or cells (j * 25 + k0) none_seen))) (column * 25 + kind) none_seen
    ≡ noted (is_kind column kind row) row.line (slice_index_or old (column * 25 + kind) none_seen)
before cells old row j k0 column kind low few same =
    let apart : column * 25 + kind ≢ j * 25 + k0 = λ h. omega (arith, h) in
    rw (get_or-set_other cells (j * 25 + k0) (column * 25 + kind) (one_more row.line (slice_index_or cells (j * 25 + k0) none_seen)) none_seen apart) same

kinds-next : (cells old : List Seen) (row : Row) (j k0 column kind : ℕ) → IsNoted old row j cells → j * 25 + k0 < length cells
    → k0 ≡ index_of (kind_of (slice_index_or row.fields j [])) → column < j + 1 → kind < 25
    → slice_index_or (slice_set cells (j * 25 + k0) (one_more row.line (slice_index_or cells (j * 25 + k0) none_seen))) (column * 25 + kind) none_seen
    ≡ noted (is_kind column kind row) row.line (slice_index_or old (column * 25 + kind) none_seen)
kinds-next cells old row j k0 column kind is lt k low few = elim (eqb_tells column j) [
  | inl same ↦ elim (eqb_tells kind k0) [
    | inl equal ↦ rw (same.1, equal.1) (here cells old row j k0 lt k (is.others (j * 25 + k0) (omega arith)))
    | inr not ↦ rw same.1 (beside cells old row j k0 kind not.1 k (is.others (j * 25 + kind) (omega arith)))
  ]
  | inr not ↦
      let lower : column < j = omega (arith, not.1) in
      before cells old row j k0 column kind lower few (is.kinds column kind lower few)
]

-- one column more
pub noted-next : (cells new old : List Seen) (row : Row) (j k0 : ℕ) → k0 < 25 → IsNoted old row j cells → j * 25 + k0 < length cells
    → k0 ≡ index_of (kind_of (slice_index_or row.fields j []))
    → new ≡ slice_set cells (j * 25 + k0) (one_more row.line (slice_index_or cells (j * 25 + k0) none_seen)) → IsNoted old row (j + 1) new
noted-next cells new old row j k0 few is lt k e = record {
  sized = rw e (length-set cells (j * 25 + k0) (one_more row.line (slice_index_or cells (j * 25 + k0) none_seen)) ∙ is.sized);
  others = λ i high.
      let apart : i ≢ j * 25 + k0 = λ h. omega (arith, h, few) in
      rw (e, get_or-set_other cells (j * 25 + k0) i (one_more row.line (slice_index_or cells (j * 25 + k0) none_seen)) none_seen apart) (is.others i (omega arith));
  few = λ i. rw e (set-few cells old (j * 25 + k0) row.line i lt (is.others (j * 25 + k0) (omega arith)) is.few);
  kinds = λ column kind low few. rw e (kinds-next cells old row j k0 column kind is lt k low few);
}
