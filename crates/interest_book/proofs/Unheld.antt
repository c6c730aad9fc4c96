-- Chunks that nobody holds.
use Rattle.std.proofs.Common.{◌≡◌, ◌<◌, ◌&&◌, not, ℕ, Bool, true, false, List, get_or, Option, None, nat_lt, refl, sym, ◌∙◌, ap, arith, inl, inr}
use Rattle.std.proofs.lemmas.Bool.{cases_Bool}
use Rattle.std.proofs.lemmas.Bool.Decides.{nat_tests}
use Rattle.scan_story.specs.Counting.{has, any_below}
use Rattle.scan_story.specs.declared.setting.Setting.{Setting}
use Rattle.scan_story.specs.declared.view.Hold.{Hold}
use Rattle.scan_story.specs.Views.{History, is_hold_of, is_held}
use Rattle.scan_story.specs.Loads.{underway, is_load_of}
use Rattle.scan_story.specs.Numbers.{cached}
use Rattle.scan_story.specs.MayFollow.{is_victim, feeds_starved}
use Rattle.interest_book.specs.declared.book.Book.{Book}
use Rattle.interest_book.specs.Stands.{Stands}
use Rattle.chunk_interest.proofs.Below.{true_false}
use Rattle.chunk_interest.proofs.Counting.{cached_is}
use Rattle.chunk_interest.proofs.Kept.{victim_inside}
use Rattle.interest_book.proofs.Shown.{held_is}
use Rattle.chunk_interest.proofs.Covering.{uncovered}

pub unheld_is : (b : Book) (s : Setting) (h : History) (xs : List (Option Hold)) (left : List ℕ) (c : ℕ) → Stands b s h → xs ≡ b.holds.items
    → has left c ≡ (has b.buffer.occupied c && not (any_below (λ w. is_hold_of c (get_or xs w None)) b.workers)) → has left c ≡ (has b.buffer.occupied c && not (is_held s h c))
unheld_is b s h xs left c st are is = is ∙ (ap (λ (hs : List (Option Hold)). has b.buffer.occupied c && not (any_below (λ w. is_hold_of c (get_or hs w None)) b.workers)) are
    ∙ ap (λ (t : Bool). has b.buffer.occupied c && not t) (held_is b s h c st))

pub not_second : (a b : Bool) → (a && not b) ≡ true → b ≡ false
not_second true true e = absurd (true_false false e refl)
not_second true false e = refl
not_second false b e = absurd (true_false false e refl)

pub no_victim : (b : Book) (s : Setting) (h : History) (left : List ℕ) → Stands b s h → ((c : ℕ) → c < 1024 → has left c ≡ (has b.buffer.occupied c && not (is_held s h c))) → (c : ℕ) → has left c ≡ false → is_victim s h c ≡ false
no_victim b s h left st is c out = elim (cases_Bool (is_victim s h c)) [
  | inl so ↦ absurd (let low = victim_inside s h c so in
      let most = st.setting.chunks in
      let small : c < 1024 = omega (arith, low, most) in
      let parts = victim_parts (nat_lt c s.chunks) (nat_lt 0 (cached s h c)) (is_load_of c (underway s h)) (is_held s h c) (feeds_starved s h c) so in
      let u = b.buffer in
      let none : cached s h c ≡ 0 = sym (cached_is s h u.groups u.frames u.places.items u.begun.items c st.setting st.buffer small)
      ∙ uncovered u.places.items u.groups u.occupied c u.covered (first_out (has u.occupied c) (is_held s h c) parts.1 (sym (is c small) ∙ out)) in
      positive (cached s h c) parts.0 none)
  | inr not ↦ not
]
  where
    first_out : (a b : Bool) → b ≡ false → (a && not b) ≡ false → a ≡ false
    first_out true true e f = absurd (true_false true refl e)
    first_out true false e f = f
    first_out false b e f = refl

    positive : (n : ℕ) → nat_lt 0 n ≡ true → n ≡ 0 → ⊥
    positive n lt e = grind (arith, nat_tests)

    victim_parts : (a b c d e : Bool) → (a && b && not c && not d && not e) ≡ true → (b ≡ true) × (d ≡ false)
    victim_parts false b c d e t = absurd (true_false false t refl)
    victim_parts true false c d e t = absurd (true_false false t refl)
    victim_parts true true true d e t = absurd (true_false false t refl)
    victim_parts true true false true e t = absurd (true_false false t refl)
    victim_parts true true false false e t = (refl, refl)
