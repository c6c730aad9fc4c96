-- What a whole story delivered to the scans of a batch, in its order.
use Rattle.std.proofs.Common.{◌≡◌, ◌∙◌, ◌<◌, ◌∷◌, ◌==◌, ◌&&◌, ℕ, Bool, true, false, List, [], map, refl, sym, ap, subst}
use Rattle.std.specs.Prelude.{None, Some, IsPermutation, find, nat_lt}
use Rattle.std.specs.List.{AllByRecursion}
use Rattle.std.proofs.lemmas.Bool.{lt-ltb, ltb-true, and_parts}
use Rattle.table_sets.specs.Sets.{has}
use Rattle.table_sets.proofs.Members.{has-numbers}
use Rattle.filter_zones.specs.Possible.{needed}
use Rattle.filter_zones.specs.declared.zone.ChunkZones.{ChunkZones}
use Rattle.scan_story.specs.declared.entry.Entry.{Entry}
use Rattle.scan_story.specs.declared.entry.Entry.TheVariants.{Deliver, End, Evict, Failed, Fill, Filled, Plan, Register, Release, Stop}
use Rattle.scan_story.specs.declared.setting.Need as asked
use Rattle.scan_story.specs.declared.setting.Setting.{Setting}
use Rattle.scan_story.specs.Causes.{cause_of}
use Rattle.scan_story.specs.Legal.{Legal}
use Rattle.scan_story.specs.Setting as settings
use Rattle.scan_story.specs.Setting.{IsSetting, asks_for, chunks_in}
use Rattle.scan_story.specs.Views.{History, is_ended, is_stopped, past}
use Rattle.story_laws.specs.Queries.{chunks_delivered}
use Rattle.story_laws.proofs.Bools.{or_false}
use Rattle.chunk_interest.specs.Fresh.{as_need}
use Rattle.batch_plan.specs.Deal.{deal, is_dealt}
use Rattle.batch_plan.specs.Scans.{Scan, need_of, needs}
use Rattle.batch_run.proofs.Delivered.{story_all, story_once}
use Rattle.batch_ends.specs.Taken.{TookNeed}
use Rattle.batch_run.proofs.Orders.{alike_below, rising_order}
use Rattle.batch_run.proofs.Planned.{find_themselves}

-- ---- the need of each scan

-- what a setting is asked for the scans of a batch
module _ (s : Setting) (zones : List ChunkZones) (parts : ℕ) (story : List Entry) (is : IsSetting s) (legal : Legal s (past story)) where
  took_one : (k : Scan) → settings.need_of s k.number ≡ Some (as_need (need_of zones parts k)) → TookNeed zones parts story k
  took_one k found =
      let asks : (c : ℕ) → asks_for s k.number c ≡ has (need_of zones parts k).chunks c = λ c. ap (λ o. has (chunks_in o) c) found in
      let each = story_once s k.number story legal in
      record {
        asked = λ c took. sym (asks c) ∙ each.asked c took;
        once = each.once;
        all = λ ended c need. (story_all s k.number story legal is ended).asked c ∙ (asks c ∙ need);
      }

  each_took : (ks : List Scan) → AllByRecursion (λ (m : asked.Need). find (λ n. n.query == m.query) s.needs ≡ Some m) (map as_need (needs zones parts ks)) → AllByRecursion (TookNeed zones parts story) ks
  each_took [] found = tt
  each_took (k ∷ ks) found = (took_one k found.0, each_took ks found.1)

  pub all_took : (ks : List Scan) → s.needs ≡ map as_need (needs zones parts ks) → AllByRecursion (TookNeed zones parts story) ks
  all_took ks same =
      let Found = λ (ns : List asked.Need). AllByRecursion (λ (m : asked.Need). find (λ n. n.query == m.query) s.needs ≡ Some m) ns in
      each_took ks (subst Found same (find_themselves s.needs is.distinct))

-- ---- a scan that ended

both_ways : (a b : Bool) → (a ≡ true → b ≡ true) → (b ≡ true → a ≡ true) → a ≡ b
both_ways true b there back = sym (there refl)
both_ways false true there back = back refl
both_ways false false there back = refl

-- the chunks that an ended scan took are those that were dealt to it
pub took_dealt : (zones : List ChunkZones) (parts : ℕ) (story : List Entry) (k : Scan) → TookNeed zones parts story k → is_ended (past story) k.number ≡ true
    → IsPermutation (chunks_delivered story k.number) (deal (needed k.plan.cond zones) parts k.part)
took_dealt zones parts story k took ended =
    let cs = chunks_delivered story k.number in
    let dealt = is_dealt (needed k.plan.cond zones) parts k.part in
    let is : (c : ℕ) → has (need_of zones parts k).chunks c ≡ (nat_lt c 1024 && dealt c) = λ c. has-numbers dealt 1024 c in
    let low : (c : ℕ) → has cs c ≡ true → c < 1024 = λ c here. ltb-true c 1024 (and_parts (nat_lt c 1024) (dealt c) (sym (is c) ∙ took.asked c here)).0 in
    let To = λ (l : List ℕ). IsPermutation cs l in
    subst To (alike_below (has cs) dealt 1024 (λ c under. both_ways (has cs c) (has (need_of zones parts k).chunks c) (took.asked c) (took.all ended c) ∙ is c ∙ ap (λ b. b && dealt c) (lt-ltb c 1024 under)))
    (rising_order 1024 cs took.once low)

-- ---- why a scan was stopped

-- a query that isn't stopped has no cause
pub no_cause : (h : History) (q : ℕ) → is_stopped h q ≡ false → cause_of h q ≡ None
no_cause [] q not = refl
no_cause (Stop w r ∷ h) q not = let o = or_false (r == q) (is_stopped h q) not in rw (no_cause h q o.1, o.0) refl
no_cause (Failed w r p why ∷ h) q not = let o = or_false (r == q) (is_stopped h q) not in rw (no_cause h q o.1, o.0) refl
no_cause (Register w r ∷ h) q not = no_cause h q not
no_cause (Plan w r c ∷ h) q not = no_cause h q not
no_cause (Evict w c ∷ h) q not = no_cause h q not
no_cause (Fill w f p ∷ h) q not = no_cause h q not
no_cause (Filled w f p ∷ h) q not = no_cause h q not
no_cause (Deliver w r c ∷ h) q not = no_cause h q not
no_cause (Release w r c ∷ h) q not = no_cause h q not
no_cause (End w r ∷ h) q not = no_cause h q not
