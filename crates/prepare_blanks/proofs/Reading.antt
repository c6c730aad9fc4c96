-- What is read of a text parted by tabs.
use Rattle.std.proofs.Common.{◌≡◌, ◌+◌, ℕ, Bool, true, false, List, [], ◌∷◌, ◌++◌, refl, ap, ◌∙◌, inl, inr}
use Rattle.std.proofs.lemmas.Bool.{cases_Bool, eqb-true}
use Rattle.std.proofs.lemmas.List.{append-nil, append_assoc}
use Rattle.std.specs.List.{list_any}
use Rattle.std.specs.Prelude.{◌==◌, ◌||◌}
use Rattle.csv.specs.Reading.{is_bom, strip_bom}
use Rattle.csv.specs.declared.parser.Config.{Config}
use Rattle.csv.specs.declared.parser.State.TheVariants as st
use Rattle.prepare_text.specs.Walk.{Lined, Walk, format, lined}
use Rattle.prepare_blanks.specs.Blanks.{is_blank, is_line_end}
use Rattle.prepare_blanks.specs.Tabs.{tabbed_from}
use Rattle.prepare_blanks.specs.Words.{AreWords, by_tabs, filled, lines_from, onto_first, pieces, rows_from, worded, words}
use Rattle.prepare_blanks.specs.declared.place.Place.TheVariants as place

abbrev cfg : ℕ → Config
cfg quote = format (by_tabs quote)

-- a walk between two lines, and one in a word
abbrev between : ℕ → ℕ → Walk
between n m = record { state = st.StartRecord; lines = record { line = n; begun = m; after_cr = false }; fields = []; field = [] }

abbrev in_word : ℕ → List (List ℕ) → List ℕ → Walk
in_word n fields field = record { state = st.InField; lines = record { line = n; begun = n; after_cr = false }; fields = fields; field = field }

abbrev row : ℕ → List (List ℕ) → Lined
row n fields = record { line = n; fields = fields }

or-false : (a b : Bool) → (a || b) ≡ false → (a ≡ false) × (b ≡ false)
or-false true b e = cc e
or-false false b e = (refl, e)

-- ---- a byte more, as it is read

-- a byte of a word
record IsPart (quote b : ℕ) : Type 0 where
  blank : is_blank b ≡ false
  line_end : is_line_end b ≡ false
  other : (b == quote) ≡ false

module _ (quote n : ℕ) (fields : List (List ℕ)) (field ys : List ℕ) where
  ends-word : lined (cfg quote) (in_word n fields field) (10 ∷ ys) ≡ row n (fields ++ (field ∷ [])) ∷ lined (cfg quote) (between (n + 1) n) ys
  unfolding lined
  ends-word = refl

  goes-on : (b : ℕ) → IsPart quote b → lined (cfg quote) (in_word n fields field) (b ∷ ys) ≡ lined (cfg quote) (in_word n fields (field ++ (b ∷ []))) ys
  unfolding lined
  goes-on b is =
      let blank = or-false (b == 32) (b == 9) is.blank in
      let ends = or-false (b == 10) (b == 13) is.line_end in
      rw (blank.1, ends.0, ends.1) refl

  next-word : (b : ℕ) → IsPart quote b → lined (cfg quote) (in_word n fields field) (9 ∷ b ∷ ys) ≡ lined (cfg quote) (in_word n (fields ++ (field ∷ [])) (b ∷ [])) ys
  unfolding lined
  next-word b is =
      let blank = or-false (b == 32) (b == 9) is.blank in
      let ends = or-false (b == 10) (b == 13) is.line_end in
      rw (is.other, blank.1, ends.0, ends.1) refl

  last-word : lined (cfg quote) (in_word n fields field) [] ≡ row n (fields ++ (field ∷ [])) ∷ []
  unfolding lined
  last-word = refl

module _ (quote n m : ℕ) (ys : List ℕ) where
  ends-line : lined (cfg quote) (between n m) (10 ∷ ys) ≡ lined (cfg quote) (between (n + 1) n) ys
  unfolding lined
  ends-line = refl

  first-word : (b : ℕ) → IsPart quote b → lined (cfg quote) (between n m) (b ∷ ys) ≡ lined (cfg quote) (in_word n [] (b ∷ [])) ys
  unfolding lined
  first-word b is =
      let blank = or-false (b == 32) (b == 9) is.blank in
      let ends = or-false (b == 10) (b == 13) is.line_end in
      rw (is.other, blank.1, ends.0, ends.1) refl

-- ---- the words of a line that begins in a word

abbrev glued : List ℕ → List (List ℕ) → List (List ℕ)
glued w [] = w ∷ []
glued w (p ∷ ps) = (w ++ p) ∷ ps

-- where the words before it are known, and a word has begun so
abbrev word_rows : ℕ → List (List ℕ) → List ℕ → List (List ℕ) → List Lined
word_rows n fields w [] = row n (fields ++ filled (glued w ([] ∷ []))) ∷ []
word_rows n fields w (line ∷ lines) = row n (fields ++ filled (glued w (pieces line))) ∷ rows_from (n + 1) lines

-- where a blank stands behind that word
abbrev gap_rows : ℕ → List (List ℕ) → List ℕ → List (List ℕ) → List Lined
gap_rows n fields w [] = row n (fields ++ (w ∷ [])) ∷ []
gap_rows n fields w (line ∷ lines) = row n (fields ++ (w ∷ words line)) ∷ rows_from (n + 1) lines

glued-first : (b : ℕ) (ps : List (List ℕ)) → glued (b ∷ []) ps ≡ onto_first b ps
glued-first b [] = refl
glued-first b (p ∷ ps) = refl

glued-on : (w : List ℕ) (b : ℕ) (ps : List (List ℕ)) → glued (w ++ (b ∷ [])) ps ≡ glued w (onto_first b ps)
glued-on w b [] = refl
glued-on w b (p ∷ ps) = ap (λ (l : List ℕ). l ∷ ps) (append_assoc w (b ∷ []) p)

module _ (n b : ℕ) (is : is_blank b ≡ true) where
  blank-rows : (lines : List (List ℕ)) → rows_from n lines ≡ rows_from n (onto_first b lines)
  blank-rows [] = rw is refl
  blank-rows (line ∷ lines) = rw is refl

  blank-ends : (fields : List (List ℕ)) (a : ℕ) (w : List ℕ) (lines : List (List ℕ)) → gap_rows n fields (a ∷ w) lines ≡ word_rows n fields (a ∷ w) (onto_first b lines)
  blank-ends fields a w [] = rw (is, append-nil w) refl
  blank-ends fields a w (line ∷ lines) = rw (is, append-nil w) refl

  blank-gap : (fields : List (List ℕ)) (w : List ℕ) (lines : List (List ℕ)) → gap_rows n fields w lines ≡ gap_rows n fields w (onto_first b lines)
  blank-gap fields w [] = rw is refl
  blank-gap fields w (line ∷ lines) = rw is refl

module _ (n b : ℕ) (is : is_blank b ≡ false) where
  part-first : (ps : List (List ℕ)) (rest : List Lined) → row n (filled (onto_first b ps)) ∷ rest ≡ worded n (filled (onto_first b ps)) rest
  part-first [] rest = refl
  part-first (p ∷ ps) rest = refl

  part-rows : (lines : List (List ℕ)) → word_rows n [] (b ∷ []) lines ≡ rows_from n (onto_first b lines)
  part-rows [] = rw is refl
  part-rows (line ∷ lines) = rw (is, glued-first b (pieces line)) (part-first (pieces line) (rows_from (n + 1) lines))

  part-on : (fields : List (List ℕ)) (w : List ℕ) (lines : List (List ℕ)) → word_rows n fields (w ++ (b ∷ [])) lines ≡ word_rows n fields w (onto_first b lines)
  part-on fields w [] = rw is (ap (λ (l : List (List ℕ)). row n (fields ++ filled l) ∷ []) (glued-on w b ([] ∷ [])))
  part-on fields w (line ∷ lines) = rw is (ap (λ (l : List (List ℕ)). row n (fields ++ filled l) ∷ rows_from (n + 1) lines) (glued-on w b (pieces line)))

  part-gap : (fields : List (List ℕ)) (w : List ℕ) (lines : List (List ℕ)) → word_rows n (fields ++ (w ∷ [])) (b ∷ []) lines ≡ gap_rows n fields w (onto_first b lines)
  part-gap fields w [] = rw is (ap (λ (l : List (List ℕ)). row n l ∷ []) (append_assoc fields (w ∷ []) ((b ∷ []) ∷ [])))
  part-gap fields w (line ∷ lines) = rw (is, glued-first b (pieces line)) (ap (λ (l : List (List ℕ)). row n l ∷ rows_from (n + 1) lines) (append_assoc fields (w ∷ []) (filled (onto_first b (pieces line)))))

-- ---- a text, byte by byte

record Reads (quote : ℕ) (xs : List ℕ) : Type 0 where
  before : (n m : ℕ) → lined (cfg quote) (between n m) (tabbed_from quote place.Before xs) ≡ rows_from n (lines_from false xs)
  after : (n m : ℕ) → lined (cfg quote) (between n m) (tabbed_from quote place.AfterCr xs) ≡ rows_from n (lines_from true xs)
  inside : (n : ℕ) (fields : List (List ℕ)) (a : ℕ) (w : List ℕ)
      → lined (cfg quote) (in_word n fields (a ∷ w)) (tabbed_from quote place.Inside xs) ≡ word_rows n fields (a ∷ w) (lines_from false xs)
  gap : (n : ℕ) (fields : List (List ℕ)) (a : ℕ) (w : List ℕ)
      → lined (cfg quote) (in_word n fields (a ∷ w)) (tabbed_from quote place.Gap xs) ≡ gap_rows n fields (a ∷ w) (lines_from false xs)

reads-none : (quote : ℕ) → Reads quote []
unfolding lined
reads-none quote = record {
  before = λ n m. refl;
  after = λ n m. refl;
  inside = λ n fields a w. rw (append-nil w) refl;
  gap = λ n fields a w. refl;
}

reads-blank : (quote b : ℕ) (xs : List ℕ) → is_blank b ≡ true → is_line_end b ≡ false → (b == 10) ≡ false → Reads quote xs → Reads quote (b ∷ xs)
reads-blank quote b xs is not feed on = record {
  before = λ n m. rw (is, not, feed) (on.before n m ∙ blank-rows n b is (lines_from false xs));
  after = λ n m. rw (is, not, feed) (on.before n m ∙ blank-rows n b is (lines_from false xs));
  inside = λ n fields a w. rw (is, not, feed) (on.gap n fields a w ∙ blank-ends n b is fields a w (lines_from false xs));
  gap = λ n fields a w. rw (is, not, feed) (on.gap n fields a w ∙ blank-gap n b is fields (a ∷ w) (lines_from false xs));
}

reads-part : (quote b : ℕ) (xs : List ℕ) → IsPart quote b → Reads quote xs → Reads quote (b ∷ xs)
reads-part quote b xs is on =
    let feed = (or-false (b == 10) (b == 13) is.line_end).0 in
    let ys = tabbed_from quote place.Inside xs in
    let lines = lines_from false xs in
    record {
      before = λ n m. rw (is.blank, is.line_end, is.other, feed) (first-word quote n m ys b is ∙ on.inside n [] b [] ∙ part-rows n b is.blank lines);
      after = λ n m. rw (is.blank, is.line_end, is.other, feed) (first-word quote n m ys b is ∙ on.inside n [] b [] ∙ part-rows n b is.blank lines);
      inside = λ n fields a w. rw (is.blank, is.line_end, feed) (goes-on quote n fields (a ∷ w) ys b is ∙ on.inside n fields a (w ++ (b ∷ [])) ∙ part-on n b is.blank fields (a ∷ w) lines);
      gap = λ n fields a w. rw (is.blank, is.line_end, is.other, feed) (next-word quote n fields (a ∷ w) ys b is ∙ on.inside n (fields ++ ((a ∷ w) ∷ [])) b [] ∙ part-gap n b is.blank fields (a ∷ w) lines);
    }

-- a line feed, and then the lines that are left
module _ (quote : ℕ) (ys : List ℕ) (lines : List (List ℕ)) (on : (n m : ℕ) → lined (cfg quote) (between n m) ys ≡ rows_from n lines) where
  end-before : (n m : ℕ) → lined (cfg quote) (between n m) (10 ∷ ys) ≡ rows_from n ([] ∷ lines)
  end-before n m = ends-line quote n m ys ∙ on (n + 1) n

  end-gap : (n : ℕ) (fields : List (List ℕ)) (w : List ℕ) → lined (cfg quote) (in_word n fields w) (10 ∷ ys) ≡ gap_rows n fields w ([] ∷ lines)
  end-gap n fields w = ends-word quote n fields w ys ∙ ap (λ (l : List Lined). row n (fields ++ (w ∷ [])) ∷ l) (on (n + 1) n)

  end-inside : (n : ℕ) (fields : List (List ℕ)) (a : ℕ) (w : List ℕ) → lined (cfg quote) (in_word n fields (a ∷ w)) (10 ∷ ys) ≡ word_rows n fields (a ∷ w) ([] ∷ lines)
  end-inside n fields a w = rw (append-nil w) (end-gap n fields (a ∷ w))

reads-feed : (quote : ℕ) (xs : List ℕ) → Reads quote xs → Reads quote (10 ∷ xs)
reads-feed quote xs on =
    let ys = tabbed_from quote place.Before xs in
    let lines = lines_from false xs in
    record {
      before = end-before quote ys lines on.before;
      after = on.before;
      inside = end-inside quote ys lines on.before;
      gap = λ n fields a w. end-gap quote ys lines on.before n fields (a ∷ w);
    }

reads-return : (quote : ℕ) (xs : List ℕ) → Reads quote xs → Reads quote (13 ∷ xs)
reads-return quote xs on =
    let ys = tabbed_from quote place.AfterCr xs in
    let lines = lines_from true xs in
    record {
      before = end-before quote ys lines on.after;
      after = end-before quote ys lines on.after;
      inside = end-inside quote ys lines on.after;
      gap = λ n fields a w. end-gap quote ys lines on.after n fields (a ∷ w);
    }

reads-byte : (quote b : ℕ) (xs : List ℕ) → (b == quote) ≡ false → Reads quote xs → Reads quote (b ∷ xs)
reads-byte quote b xs other on = elim (cases_Bool (b == 10)) [
  | inl so ↦ let e : b ≡ 10 = eqb-true b 10 so in rw e (reads-feed quote xs on)
  | inr no_feed ↦ elim (cases_Bool (b == 13)) [
    | inl so ↦ let e : b ≡ 13 = eqb-true b 13 so in rw e (reads-return quote xs on)
    | inr no_return ↦
        let not : is_line_end b ≡ false = rw (no_feed, no_return) refl in
        elim (cases_Bool (is_blank b)) [
          | inl so ↦ reads-blank quote b xs so not no_feed on
          | inr no_blank ↦ reads-part quote b xs (record { blank = no_blank; line_end = not; other = other }) on
        ]
  ]
]

reads : (quote : ℕ) (xs : List ℕ) → list_any (λ b. b == quote) xs ≡ false → Reads quote xs
reads quote [] e = reads-none quote
reads quote (b ∷ xs) e = let h = or-false (b == quote) (list_any (λ b. b == quote) xs) e in reads-byte quote b xs h.0 (reads quote xs h.1)

unmarked : (quote : ℕ) (xs : List ℕ) → list_any (λ b. b == quote) xs ≡ false → list_any (λ b. b == quote) (strip_bom xs) ≡ false
unfolding strip_bom
unmarked quote [] e = e
unmarked quote (a ∷ []) e = e
unmarked quote (a ∷ b ∷ []) e = e
unmarked quote (a ∷ b ∷ c ∷ xs) e = elim (cases_Bool (is_bom a b c)) [
  | inl so ↦
      let p = or-false (a == quote) (list_any (λ b. b == quote) (b ∷ c ∷ xs)) e in
      let q = or-false (b == quote) (list_any (λ b. b == quote) (c ∷ xs)) p.1 in
      let r = or-false (c == quote) (list_any (λ b. b == quote) xs) q.1 in
      rw so r.1
  | inr not ↦ rw not e
]

pub are-words : AreWords
unfolding strip_bom
are-words quote text e = (reads quote (strip_bom text) (unmarked quote text e)).before 1 1
