-- One mark more behind those of a row, and one row more, as code puts them there.
use Rattle.std.proofs.Common.{◌≡◌, ◌==◌, ◌<◌, ◌+◌, ◌∙◌, ℕ, zero, suc, Bool, true, false, List, [], ◌∷◌, ◌++◌, length, drop, get_or, set, map, min, refl, sym, ap, subst, arith, append_assoc, eqb-true}
use Rattle.std.specs.Prelude.{Vec, if◌then◌else◌}
use Rattle.std.proofs.lemmas.Bool.{eqb-false}
use Rattle.std.proofs.lemmas.List.{drop_more, get_or-set_other, get_or-set_same, length-map, map-set}
use Rattle.std.specs.Global.{Global}
use Rattle.inspect_picture.specs.declared.mark.Mark.{Mark}
use Rattle.inspect_picture.specs.declared.scale.Scale.{Scale}
use Rattle.inspect_picture.specs.declared.stretch.Stretch.{Stretch}
use Rattle.inspect_picture.specs.Stretches.{is_in, one_or_two, stretches, with_mark, with_marks}
use Rattle.inspect_picture.specs.Rows.{row_at}
use Rattle.inspect_picture.specs.Svg.{drawn, row_text, rows_text}

-- behind the last stretch
behind_last : (z : Scale) (xs : List Stretch) (g : Stretch) (m : Mark) → with_mark z (xs ++ g ∷ []) m ≡ xs ++ one_or_two z g m
behind_last z [] g m = refl
behind_last z (x ∷ []) g m = refl
behind_last z (x ∷ y ∷ ys) g m = ap (λ t. x ∷ t) (behind_last z (y ∷ ys) g m)

pub put_is : (z : Scale) (old xs new : List Stretch) (g : Stretch) (m : Mark) → old ≡ xs ++ g ∷ [] → new ≡ xs ++ one_or_two z g m → new ≡ with_mark z old m
put_is z old xs new g m split is = is ∙ sym (ap (λ t. with_mark z t m) split ∙ behind_last z xs g m)

-- a row among all

pub row_is : (rows : List (Vec Stretch Global)) (k : ℕ) (d : Vec Stretch Global) → k < length rows → (get_or rows k d).items ≡ row_at rows k
row_is [] k d low = absurd (omega (arith, low))
row_is (w ∷ ws) zero d low = refl
row_is (w ∷ ws) (suc k) d low = row_is ws k d (omega (arith, low))

-- where one mark more was put behind those of a row
pub put_row : (z : Scale) (m : Mark) (rows : List (Vec Stretch Global)) (p : ℕ) (d v : Vec Stretch Global) → p < length rows
    → v.items ≡ with_mark z (get_or rows p d).items m → (k : ℕ)
    → row_at (set rows p v) k ≡ (if p == k then with_mark z (row_at rows k) m else row_at rows k)
put_row z m rows p d v low is k = ap (λ gs. get_or gs k []) (map-set items rows p v) ∙ by (p == k) refl
  where
    items : Vec Stretch Global → List Stretch
    items v = v.items

    within : p < length (map items rows)
    within = omega (arith, low, length-map rows items)

    by : (b : Bool) → (p == k) ≡ b → get_or (set (map items rows) p v.items) k [] ≡ (if b then with_mark z (row_at rows k) m else row_at rows k)
    by true e =
        subst (λ j. get_or (set (map items rows) p v.items) j [] ≡ with_mark z (row_at rows j) m) (eqb-true p k e)
        (get_or-set_same (map items rows) p v.items [] within ∙ is ∙ ap (λ gs. with_mark z gs m) (row_is rows p d low))
    by false e = get_or-set_other (map items rows) p k v.items [] (λ same. eqb-false p k e (sym same))

-- one more that is blank
pub blank_more : (rows : List (Vec Stretch Global)) (v : Vec Stretch Global) → v.items ≡ [] → ((k : ℕ) → row_at rows k ≡ [])
    → (k : ℕ) → row_at (rows ++ v ∷ []) k ≡ []
blank_more [] v is blank zero = is
blank_more [] v is blank (suc k) = refl
blank_more (w ∷ ws) v is blank zero = blank zero
blank_more (w ∷ ws) v is blank (suc k) = blank_more ws v is (λ k. blank (suc k)) k

-- the next of the marks
pub next_mark : (z : Scale) (k : ℕ) (gs : List Stretch) (ms : List Mark) (i : ℕ) (d : Mark) → i < length ms
    → with_marks z k (if is_in z k (get_or ms i d) then with_mark z gs (get_or ms i d) else gs) (drop (i + 1) ms) ≡ with_marks z k gs (drop i ms)
next_mark z k gs ms i d low = sym (ap (with_marks z k gs) (drop_more ms i d low))

-- one row more

pub no_rows : (z : Scale) (titled : Bool) (ms : List Mark) → rows_text z titled ms 0 ≡ []
unfolding rows_text
no_rows z titled ms = refl

pub none_drawn : (z : Scale) (ms : List Mark) → drawn z ms 0 ≡ 0
unfolding drawn
none_drawn z ms = refl

row_more : (z : Scale) (titled : Bool) (ms : List Mark) (k : ℕ) → rows_text z titled ms (suc k) ≡ rows_text z titled ms k ++ row_text z titled (stretches z k ms)
unfolding rows_text
row_more z titled ms k = refl

count_more : (z : Scale) (ms : List Mark) (k : ℕ) → drawn z ms (suc k) ≡ min (drawn z ms k + length (stretches z k ms)) 18446744073709551615
unfolding drawn
count_more z ms k = refl

pub text_more : (z : Scale) (titled : Bool) (ms : List Mark) (k : ℕ) (before svg new : List ℕ) (gs : List Stretch) → svg ≡ before ++ rows_text z titled ms k
    → gs ≡ stretches z k ms → new ≡ svg ++ row_text z titled gs → new ≡ before ++ rows_text z titled ms (k + 1)
text_more z titled ms k before svg new gs so g is =
    let e : k + 1 ≡ suc k = omega arith in
    is ∙ ap (λ x. svg ++ row_text z titled x) g
    ∙ ap (λ x. x ++ row_text z titled (stretches z k ms)) so ∙ append_assoc before (rows_text z titled ms k) (row_text z titled (stretches z k ms))
    ∙ sym (ap (λ x. before ++ x) (ap (rows_text z titled ms) e ∙ row_more z titled ms k))

pub drawn_more : (z : Scale) (ms : List Mark) (k d n new : ℕ) (gs : List Stretch) → d ≡ drawn z ms k → gs ≡ stretches z k ms → n ≡ length gs
    → new ≡ min (d + n) 18446744073709551615 → new ≡ drawn z ms (k + 1)
drawn_more z ms k d n new gs so g len is =
    let e : k + 1 ≡ suc k = omega arith in
    is ∙ ap (λ x. min (d + x) 18446744073709551615) len ∙ ap (λ x. min (x + length gs) 18446744073709551615) so ∙ ap (λ x. min (drawn z ms k + length x) 18446744073709551615) g
    ∙ sym (ap (drawn z ms) e ∙ count_more z ms k)
