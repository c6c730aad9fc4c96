-- What attach keeps is its cursor.
use Rattle.std.proofs.Common.{◌≡◌, ◌==◌, ◌+◌, ◌-◌, ◌≤◌, ◌∷◌, ℕ, suc, false, if◌then◌else◌, List, Option, None, Some, map, get_or, set, unwrap_or, refl, sym, ◌∙◌, ap, subst, arith}
use Rattle.std.proofs.Math.ListN.{get_or-map}
use Rattle.std.proofs.lemmas.List.{map-set, set-get_or}
use Rattle.std.proofs.lemmas.Bool.Decides.{nat_tests}
use Rattle.interest_book.specs.declared.book.Book.{Book}
use Rattle.chunk_interest.proofs.Needs.{need_small}
use Rattle.chunk_interest.proofs.Kept.{keeps, active_registered}
use Rattle.interest_book.specs.Picks.{HasActive}
use Rattle.scan_story.specs.Policies.{start_of, served}
use Rattle.policy_plain.specs.Starts.{place_of, cursor_of}

-- the cursor's place of a query
place_is : (last : ℕ) (starts : List (Option ℕ)) (k : ℕ) → get_or (cursor_of last starts) (suc k) 0 ≡ place_of (get_or starts k None)
place_is last starts k = get_or-map place_of starts k None

start_at : (o : Option ℕ) (last : ℕ) → unwrap_or o last ≡ (if place_of o == 0 then last else place_of o - 1)
start_at None last = refl
start_at (Some x) last = rw (above x) (omega arith)
  where
    above : (x : ℕ) → (x + 1 == 0) ≡ false
    above x = grind (arith, nat_tests)

pub start_is : (last : ℕ) (starts : List (Option ℕ)) (k : ℕ) → unwrap_or (get_or starts k None) last ≡ start_of (cursor_of last starts) (suc k)
start_is last starts k = start_at (get_or starts k None) last ∙ ap (λ (p : ℕ). if p == 0 then last else p - 1) (sym (place_is last starts k))

pub serve_is : (last : ℕ) (starts : List (Option ℕ)) (k start : ℕ) → start ≡ unwrap_or (get_or starts k None) last → cursor_of last (set starts k (Some start)) ≡ served (cursor_of last starts) (suc k)
serve_is last starts k start is =
    ap (λ (xs : List ℕ). last ∷ xs) (map-set place_of starts k (Some start) ∙ ap (λ (x : ℕ). set (map place_of starts) k (x + 1)) is)
    ∙ at_place (get_or starts k None) (place_is last starts k)
  where
    at_place : (o : Option ℕ) → get_or (cursor_of last starts) (suc k) 0 ≡ place_of o → last ∷ set (map place_of starts) k (unwrap_or o last + 1) ≡ served (cursor_of last starts) (suc k)
    at_place None e = sym (ap (λ (p : ℕ). if p == 0 then set (cursor_of last starts) (suc k) (last + 1) else cursor_of last starts) e)
    at_place (Some x) e =
        ap (λ (p : ℕ). last ∷ set (map place_of starts) k p) (sym e) ∙ (ap (λ (xs : List ℕ). last ∷ xs) (set-get_or (map place_of starts) k 0)
        ∙ sym (ap (λ (p : ℕ). if p == 0 then set (cursor_of last starts) (suc k) (last + 1) else cursor_of last starts) e ∙ rw (above x) refl))
      where
        above : (x : ℕ) → (x + 1 == 0) ≡ false
        above x = grind (arith, nat_tests)

pub serve_at : (last : ℕ) (starts : List (Option ℕ)) (q start : ℕ) → 1 ≤ q → start ≡ start_of (cursor_of last starts) q → cursor_of last (set starts (q - 1) (Some start)) ≡ served (cursor_of last starts) q
serve_at last starts q start least is =
    let e : suc (q - 1) ≡ q = omega (arith, least) in
    subst (λ (p : ℕ). cursor_of last (set starts (q - 1) (Some start)) ≡ served (cursor_of last starts) p) e
    (serve_is last starts (q - 1) start (is ∙ (ap (start_of (cursor_of last starts)) (sym e) ∙ sym (start_is last starts (q - 1)))))

-- a query that is active is one of those that have a place
pub active_least : (b : Book) (q : ℕ) → HasActive b q → 1 ≤ q
active_least b q a = (need_small a.setting q a.stands.setting ((keeps a.setting a.history a.stands.setting a.stands.followed).registered q (active_registered a.history q a.active))).0
