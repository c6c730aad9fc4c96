-- Stories that grow by an entry, and how long they get.
use Rattle.std.proofs.Common.{◌≡◌, ◌≤◌, ◌+◌, ◌*◌, ◌-◌, ◌^◌, ◌∷◌, ◌++◌, [], List, length, arith}
use Rattle.std.proofs.lemmas.List.{reverse-append}
use Rattle.std.proofs.Math.Nat.{mul-le-mul}
use Rattle.scan_story.specs.declared.entry.Entry.{Entry}
use Rattle.scan_story.specs.declared.entry.Entry.TheVariants.{Register, Plan, Evict, Fill, Filled, Failed, Deliver, Release, Stop, End}
use Rattle.scan_story.specs.declared.setting.Setting.{Setting}
use Rattle.scan_story.specs.declared.origin.Start.{Start}
use Rattle.scan_story.specs.Setting.{IsSetting, HasRoom, IsStart}
use Rattle.scan_story.specs.Views.{History, past}
use Rattle.scan_story.specs.Spent.{reads}
use Rattle.scan_story.specs.Legal.{Legal}
use Rattle.story_laws.specs.Bounds.{capacity_for, sizes, FitsCapacity}
use Rattle.story_laws.proofs.Laws.{is_short, settings_fit}
use Rattle.abm_policy.specs.Depots.{DepotView, Agrees}

pub past_push : (es : List Entry) (e : Entry) → past (es ++ e ∷ []) ≡ e ∷ past es
past_push es e = reverse-append es (e ∷ [])

pub capacity_small : (s : Setting) → FitsCapacity s → capacity_for s ≤ 9464064
capacity_small s fit =
    let chunks = fit.chunks in
    let queries = fit.queries in
    let groups = fit.groups in
    let left : sizes s + 3 * length s.needs ≤ 262912 = omega (arith, chunks, queries) in
    let right : 2 + 2 * s.groups ≤ 34 = omega (arith, groups) in
    let product : (sizes s + 3 * length s.needs) * (2 + 2 * s.groups) ≤ 262912 * 34 = mul-le-mul left right in
    omega (arith, chunks, queries, product)

-- a legal story has few entries
pub few_entries : (s : Setting) (h : History) → IsSetting s → HasRoom s → Legal s h → length h ≤ 9464064
few_entries s h ok room legal =
    let short = is_short s h ok room legal in
    let small = capacity_small s (settings_fit s ok) in
    omega (arith, short, small)

reads_le : (h : History) → reads h ≤ length h
reads_le [] = omega arith
reads_le (Register w q ∷ h) = omega (arith, reads_le h)
reads_le (Plan w q c ∷ h) = omega (arith, reads_le h)
reads_le (Evict w c ∷ h) = omega (arith, reads_le h)
reads_le (Fill w f p ∷ h) = omega (arith, reads_le h)
reads_le (Filled w f p ∷ h) = omega (arith, reads_le h)
reads_le (Failed w q p why ∷ h) = omega (arith, reads_le h)
reads_le (Deliver w q c ∷ h) = omega (arith, reads_le h)
reads_le (Release w q c ∷ h) = omega (arith, reads_le h)
reads_le (Stop w q ∷ h) = omega (arith, reads_le h)
reads_le (End w q ∷ h) = omega (arith, reads_le h)

-- the gets of a desk's depot leave room for a load's reads
pub gets_fit : (o : Start) (h : History) (d : DepotView) → IsStart o → Legal o.setting h → Agrees o h d → d.gets + 16 ≤ 2 ^ 64 - 1
gets_fit o h d start legal agrees =
    let few = few_entries o.setting h start.setting start.room legal in
    let most = reads_le h in
    let gets = agrees.gets in
    let from = start.gets in
    omega (arith, gets, from, most, few)
