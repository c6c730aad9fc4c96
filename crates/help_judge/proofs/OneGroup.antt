-- With one group a query shares each chunk with each query that needs it, so overlap is interested.
use Rattle.std.proofs.Common.{◌≡◌, ◌==◌, ◌&&◌, ◌∷◌, [], ℕ, Bool, true, false, List, if◌then◌else◌, refl, ◌∙◌, ap}
use Rattle.std.specs.List.{list_any}
use Rattle.scan_story.specs.declared.setting.Setting.{Setting}
use Rattle.scan_story.specs.Counting.{has}
use Rattle.scan_story.specs.Setting.{need_of, columns_in, groups_read, shares}
use Rattle.scan_story.specs.Views.{History, is_active, needs_chunk}
use Rattle.scan_story.specs.Numbers.{interested, overlap, is_starved, starved_interested, starved_overlap}
use Rattle.scan_story.proofs.Counts.{among_same}

one_read : (s : Setting) (q : ℕ) → s.groups ≡ 1 → groups_read s q ≡ 0 ∷ []
one_read s q e = ap (λ (n : ℕ). if n == 1 then 0 ∷ [] else columns_in (need_of s q)) e

pub shares_one : (s : Setting) (q r : ℕ) → s.groups ≡ 1 → shares s q r ≡ true
shares_one s q r e =
    ap (λ (gs : List ℕ). list_any (λ g. has (groups_read s r) g) gs) (one_read s q e) ∙ ap (λ (gs : List ℕ). list_any (λ g. has gs g) (0 ∷ [])) (one_read s r e)

and_true : (a b : Bool) → b ≡ true → (a && b) ≡ a
and_true true b e = e
and_true false b e = refl

pub overlap_one : (s : Setting) (h : History) (q c : ℕ) → s.groups ≡ 1 → overlap s h q c ≡ interested s h c
overlap_one s h q c e =
    among_same (λ n. is_active h n.query && needs_chunk s h n.query c && shares s q n.query) (λ n. is_active h n.query && needs_chunk s h n.query c)
    (λ n. and_true (is_active h n.query && needs_chunk s h n.query c) (shares s q n.query) (shares_one s q n.query e)) s.needs

pub starved_overlap_one : (s : Setting) (h : History) (q c : ℕ) → s.groups ≡ 1 → starved_overlap s h q c ≡ starved_interested s h c
starved_overlap_one s h q c e =
    among_same (λ n. is_starved s h n.query && needs_chunk s h n.query c && shares s q n.query) (λ n. is_starved s h n.query && needs_chunk s h n.query c)
    (λ n. and_true (is_starved s h n.query && needs_chunk s h n.query c) (shares s q n.query) (shares_one s q n.query e)) s.needs
