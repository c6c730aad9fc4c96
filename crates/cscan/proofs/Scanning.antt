-- A scan between its calls, with nothing out and with a chunk out.
use Rattle.std.proofs.Common.{◌≡◌, ◌==◌, ◌++◌, ◌∷◌, ◌<◌, ◌+◌, ◌*◌, [], ℕ, true, false, if◌then◌else◌, List, map, length, Option, None, Some, arith, refl, sym, ap, ◌∙◌, subst}
use Rattle.scan_story.specs.declared.cause.Cause.{Cause}
use Rattle.scan_story.specs.declared.cause.Cause.TheVariants.{Memory}
use Rattle.scan_story.specs.declared.entry.Entry.{Entry}
use Rattle.scan_story.specs.declared.entry.Entry.TheVariants.{Stop}
use Rattle.scan_story.specs.declared.setting.Setting.{Setting}
use Rattle.scan_story.specs.Causes.{cause_of, or_else}
use Rattle.scan_story.specs.Counting.{has}
use Rattle.scan_story.specs.MayFollow.{IsIdle}
use Rattle.scan_story.specs.Setting.{columns_in, groups_read, need_of, piece_at, pieces_read}
use Rattle.scan_story.specs.Views.{History, is_active, is_stopped, past}
use Rattle.scan_story.proofs.Prefixes.{past_next}
use Rattle.story_laws.proofs.Bools.{either, equal_number, not_both, or_left, or_right, same_number, self_number}
use Rattle.abm_policy.specs.Turns.{MayTurn}
use Rattle.frame_pool.specs.Frames.{Told}
use Rattle.scan_story.specs.declared.origin.Start.{Start}
use Rattle.piece_format.specs.Shape.{TableShape, groups, groups_in}
use Rattle.piece_format.specs.declared.layout.Layout.{Layout}
use Rattle.piece_format.specs.declared.layout.Layout.TheVariants as layouts
use Rattle.frame_rows.specs.declared.given.Given.{Given}
use Rattle.cscan.specs.declared.scan.CScan.{CScan}
use Rattle.cscan.specs.Scans.{IsAt, IsGiven, IsOut, IsScan, reads_column}
use Rattle.frame_rows.specs.Tables.{group_with, piece_with}
use Rattle.cscan.proofs.Turning.{stopped_inactive}

-- with nothing out the worker may turn
pub may_turn : (s : Setting) (h : History) (w q : ℕ) (out : Option Given) → IsAt s h w q out → out ≡ None → MayTurn s h w q
may_turn s h w q out at none =
    let a = subst (λ (o : Option Given). IsAt s h w q o) none at in
    record { runs = a.runs; idle = record { holds_nothing = a.holds; loads_nothing = a.loads_nothing } }

-- what is out is as it was given
module _ {S C P D T K : Type 0} where
  pub given_out : (o : Start) (told : Told) (scan : CScan S C P D T K) (given : Given) → IsScan o told scan → scan.out ≡ Some given
      → IsGiven o.setting scan.shape.now (past scan.station.now.pass.seen) scan.query given
  given_out o told scan given is out = subst (λ (x : Option Given). IsOut o.setting scan.shape.now (past scan.station.now.pass.seen) scan.query x) out is.given

-- Stops

pub stop_inactive : (es new : List Entry) (w q : ℕ) → new ≡ es ++ Stop w q ∷ [] → is_active (past new) q ≡ false
stop_inactive es new w q is =
    let stopped : is_stopped (Stop w q ∷ past es) q ≡ true = or_left (q == q) (is_stopped (past es) q) (self_number q) in
    ap (λ (l : List Entry). is_active (past l) q) is ∙ (ap (λ (k : History). is_active k q) (past_next es (Stop w q)) ∙ stopped_inactive (Stop w q ∷ past es) q stopped)

pub stop_idle : (s : Setting) (es new : List Entry) (w q : ℕ) → new ≡ es ++ Stop w q ∷ [] → IsIdle s (past es) w → IsIdle s (past new) w
stop_idle s es new w q is idle =
    subst (λ (l : List Entry). IsIdle s (past l) w) (sym is)
    (subst (λ (h : History). IsIdle s h w) (sym (past_next es (Stop w q))) (record { holds_nothing = idle.holds_nothing; loads_nothing = idle.loads_nothing }))

pub stop_cause : (es new : List Entry) (w q : ℕ) → new ≡ es ++ Stop w q ∷ [] → cause_of (past es) q ≡ None → cause_of (past new) q ≡ Some Memory
stop_cause es new w q is none =
    ap (λ (l : List Entry). cause_of (past l) q) is
    ∙ (ap (λ (k : History). cause_of k q) (past_next es (Stop w q)) ∙ (ap (λ (o : Option Cause). or_else o (q == q) Memory) none ∙ ap (λ b. or_else None b Memory) (self_number q)))

-- The piece of a column

has_map : (f : ℕ → ℕ) (xs : List ℕ) (x : ℕ) → has xs x ≡ true → has (map f xs) (f x) ≡ true
has_map f [] x e = absurd (not_both false e refl)
has_map f (y ∷ ys) x e =
    either (y == x) (has ys x) e
    (λ t. or_left (f y == f x) (has (map f ys) (f x)) (equal_number (f y) (f x) (ap f (same_number y x t))))
    (λ t. or_right (f y == f x) (has (map f ys) (f x)) (has_map f ys x t))

group_read : (s : Setting) (q x n : ℕ) (l : Layout) → reads_column s q x ≡ true → x < n → s.groups ≡ groups_in l n → has (groups_read s q) (group_with l x) ≡ true
group_read s q x n layouts.Row reads low same = rw (equal_number s.groups 1 same) refl
group_read s q x n layouts.Column reads low same =
    elim (s.groups == 1) as (λ t. (s.groups == 1) ≡ t → has (if t then 0 ∷ [] else columns_in (need_of s q)) x ≡ true) [
      | true ↦ λ one. (let zero_x : 0 ≡ x = (let e = same_number s.groups 1 one in omega (arith, e, same, low)) in or_left (0 == x) false (equal_number 0 x zero_x))
      | false ↦ λ many. reads
    ] refl

-- the query reads the piece of a chunk that has a column which it reads
pub piece_read : (s : Setting) (z : TableShape) (q c x : ℕ) → reads_column s q x ≡ true → x < length z.kinds → s.groups ≡ groups z → has (pieces_read s q c) (piece_with z c x) ≡ true
piece_read s z q c x reads low same =
    let g = group_with z.layout x in
    let there = has_map (piece_at s c) (groups_read s q) g (group_read s q x (length z.kinds) z.layout reads low same) in
    subst (λ (n : ℕ). has (pieces_read s q c) (c * n + g) ≡ true) same there
