-- Which of a worker's queries may be active.
use Rattle.std.proofs.Common.{◌≡◌, ◌==◌, ◌&&◌, ◌∷◌, [], ℕ, true, false, Some, refl, sym, ◌∙◌, ap, inl, inr}
use Rattle.std.specs.List.{list_any}
use Rattle.std.proofs.lemmas.Bool.{cases_Bool}
use Rattle.scan_story.specs.declared.entry.Entry.TheVariants.{Register, Plan, Evict, Fill, Filled, Failed, Deliver, Release, Stop, End}
use Rattle.scan_story.specs.declared.setting.Setting.{Setting}
use Rattle.scan_story.specs.Setting.{worker_of}
use Rattle.scan_story.specs.Views.{History, is_active}
use Rattle.scan_story.specs.Legal.{Legal}
use Rattle.story_laws.proofs.Bools.{if_here, if_not, if_other, not_both, same_number}
use Rattle.abm_policy.specs.Waiting.{ActiveIsLast, RestsAlone, last_registered}
use Rattle.abm_policy.proofs.Meanwhile.{active_before, listed_of, not_mine, passing_of}

-- another query was registered: the active one was active before
later : (s : Setting) (h : History) (v r w q : ℕ) → Legal s (Register v r ∷ h) → worker_of s q ≡ Some w → is_active (Register v r ∷ h) q ≡ true → (r == q) ≡ false → is_active h q ≡ true
later s h v r w q legal on a other = active_before (Register v r) h q other a

pub active_is_last : ActiveIsLast
active_is_last s [] w q legal on a = absurd cc
active_is_last s (Register v r ∷ h) w q legal on a = elim (cases_Bool (v == w)) [
  | inl mine ↦ elim (cases_Bool (r == q)) [
    | inl so ↦ if_here (v == w) (Some r) (last_registered w h) mine ∙ ap Some (same_number r q so)
    | inr other ↦ (
        let before = active_before (Register v r) h q other a in
        let same : v ≡ w = same_number v w mine in
        let on_v : worker_of s q ≡ Some v = on ∙ ap Some (sym same) in
        absurd (not_both (list_any (λ n. n.worker == v && is_active h n.query) s.needs) (listed_of s v (is_active h) (q, on_v, before)) legal.0.alone))
  ]
  | inr not_mine' ↦ if_other (v == w) (Some r) (last_registered w h) not_mine' ∙ active_is_last s h w q legal.2 on (active_before (Register v r) h q (not_mine s r q v w legal.0.on on not_mine') a)
]
active_is_last s (Plan v r c ∷ h) w q legal on a = active_is_last s h w q legal.2 on a
active_is_last s (Evict v c ∷ h) w q legal on a = active_is_last s h w q legal.2 on a
active_is_last s (Fill v f p ∷ h) w q legal on a = active_is_last s h w q legal.2 on a
active_is_last s (Filled v f p ∷ h) w q legal on a = active_is_last s h w q legal.2 on a
active_is_last s (Failed v r p why ∷ h) w q legal on a = active_is_last s h w q legal.2 on (active_before (Failed v r p why) h q refl a)
active_is_last s (Deliver v r c ∷ h) w q legal on a = active_is_last s h w q legal.2 on a
active_is_last s (Release v r c ∷ h) w q legal on a = active_is_last s h w q legal.2 on a
active_is_last s (Stop v r ∷ h) w q legal on a = active_is_last s h w q legal.2 on (active_before (Stop v r) h q refl a)
active_is_last s (End v r ∷ h) w q legal on a = active_is_last s h w q legal.2 on (active_before (End v r) h q refl a)

-- so no query of a worker is active where the last one that it registered isn't
pub rests_alone : RestsAlone
rests_alone s h w ok legal over = if_not (list_any (λ n. n.worker == w && is_active h n.query) s.needs) (λ t.
    let r = passing_of w (is_active h) s.needs ok.distinct t in
    not_both (is_active h r.0) r.2 (over r.0 (active_is_last s h w r.0 legal r.1 r.2)))
