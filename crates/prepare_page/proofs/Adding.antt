-- One record more, and none more; the width of the most records.
use Rattle.std.proofs.Common.{◌≡◌, ◌≢◌, ◌+◌, ◌<◌, ◌≤◌, ℕ, Bool, true, false, List, length, drop, refl, sym, subst, ap, ◌∙◌, arith, inl, inr}
use Rattle.std.specs.Prelude.{[], ◌∷◌, slice_index_or, slice_set}
use Rattle.std.proofs.lemmas.Bool.Decides.{eqb_tells}
use Rattle.std.proofs.lemmas.List.{get_or-set_other, get_or-set_same}
use Rattle.prepare_look.specs.Lines.{one_if}
use Rattle.prepare_look.specs.Rows.{Row, rows_of}
use Rattle.prepare_look.specs.Surveys.{IsSurvey}
use Rattle.prepare_look.specs.declared.place.Marks.{Marks}
use Rattle.prepare_look.specs.declared.survey.Survey.{Survey}
use Rattle.prepare_page.specs.Headers.{has_names}
use Rattle.prepare_page.specs.Looks.{AreNames, looked_at}
use Rattle.prepare_page.specs.Widths.{AddsWidths, AreWidths, IsFew, IsMost, IsUsual, IsWider, count_rows, has_width, one_higher, told_width}
use Rattle.prepare_page.specs.declared.counts.Widths.{Widths}
use Rattle.prepare_page.specs.declared.usual.Usual.{Usual}

pub one-low : (b : Bool) → one_if b ≤ 1
one-low true = omega arith
one-low false = omega arith

pub adds-first : (all : List Row) (w : Widths) → AreWidths [] w → AddsWidths all all w
unfolding count_rows
adds-first all w is = record {
  records = omega (arith, is.records);
  counts = λ n h. let e : slice_index_or w.counts.items n 0 ≡ 0 = is.counts n h in omega (arith, e);
}

pub adds-next : (all left : List Row) (row : Row) (s t : Widths) → AddsWidths all (row ∷ left) s → IsWider s row t → AddsWidths all left t
unfolding count_rows
adds-next all left row s t is wider = record {
  records = omega (arith, is.records, wider.records);
  counts = λ n h.
      let a : slice_index_or s.counts.items n 0 + (one_if (has_width n row) + count_rows (has_width n) left) ≡ count_rows (has_width n) all = is.counts n h in
      omega (arith, a, wider.counts n h);
}

pub adds-last : (all : List Row) (w : Widths) → AddsWidths all [] w → AreWidths all w
unfolding count_rows
adds-last all w is = record {
  records = omega (arith, is.records);
  counts = λ n h. let e : slice_index_or w.counts.items n 0 + 0 ≡ count_rows (has_width n) all = is.counts n h in omega (arith, e);
}

pub few-first : (w : Widths) → AreWidths [] w → IsFew w
unfolding count_rows
few-first w is = λ n h. let e : slice_index_or w.counts.items n 0 ≡ 0 = is.counts n h in omega (arith, e)

pub few-next : (s t : Widths) (row : Row) → IsFew s → IsWider s row t → IsFew t
few-next s t row few wider = λ n h. omega (arith, few n h, wider.counts n h, wider.records, one-low (has_width n row))

-- the count of one width is one higher
pub one-wider : (cells : List ℕ) (row : Row) (at n : ℕ) → at ≡ told_width (length row.fields) → at < length cells
    → slice_index_or (slice_set cells at (slice_index_or cells at 0 + 1)) n 0 ≡ slice_index_or cells n 0 + one_if (has_width n row)
one-wider cells row at n is lt = elim (eqb_tells (told_width (length row.fields)) n) [
  | inl same ↦
      let here : at ≡ n = is ∙ same.1 in
      rw (same.0, sym here) (get_or-set_same cells at (slice_index_or cells at 0 + 1) 0 lt)
  | inr not ↦
      let apart : n ≢ at = λ e. not.1 (sym is ∙ sym e) in
      rw not.0 (get_or-set_other cells at n (slice_index_or cells at 0 + 1) 0 apart ∙ omega arith)
]

pub wider : (old new : Widths) (row : Row) → told_width (length row.fields) < length old.counts.items → new.records ≡ old.records + 1
    → new.counts.items ≡ one_higher old.counts.items (told_width (length row.fields)) → IsWider old row new
wider old new row sized records set = record {
  records = records;
  counts = λ n h. ap (λ (l : List ℕ). slice_index_or l n 0) set
      ∙ one-wider old.counts.items row (told_width (length row.fields)) n refl sized;
}

pub usual-of : (rows : List Row) (w : Widths) (u : Usual) → AreWidths rows w → IsMost w.counts.items 4097 u → u.records ≡ w.records → IsUsual rows u
usual-of rows w u are most records = record {
  records = records ∙ are.records;
  wide = most.wide;
  low = most.low;
  count = λ h. most.count h ∙ are.counts u.width most.low;
  most = λ n a b. let e = are.counts n b in omega (arith, most.most n a (omega arith), e);
}

-- names or none, by a survey of the records below the first one
pub named-by : (m : Marks) (text : List ℕ) (titles : ℕ) (first : List (List ℕ)) (n : ℕ) (under : Survey) (named : Bool) → n ≡ looked_at (length first)
    → IsSurvey n (drop (titles + 1) (rows_of m text)) under → named ≡ has_names first under under.width → AreNames m text titles first named
named-by m text titles first n under named e is h = (
  under,
  subst (λ k. IsSurvey k (drop (titles + 1) (rows_of m text)) under) e is,
  h ∙ ap (λ k. has_names first under k) (is.width ∙ e),
)
