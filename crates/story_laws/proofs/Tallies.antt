-- How many entries of each kind there are.
use Rattle.std.proofs.Common.{◌≡◌, ◌≤◌, ◌+◌, ◌∷◌, [], ◌&&◌, ℕ, Bool, true, false, if◌then◌else◌, length, Option, None, Some, is_none, is_some, refl, ap, arith}
use Rattle.std.specs.Option.{option_map}
use Rattle.scan_story.specs.declared.entry.Entry.{Entry}
use Rattle.scan_story.specs.declared.entry.Entry.TheVariants.{Deliver, End, Evict, Failed, Fill, Filled, Plan, Register, Release, Stop}
use Rattle.scan_story.specs.declared.setting.Setting.{Setting}
use Rattle.scan_story.specs.declared.view.Load.{Load}
use Rattle.scan_story.specs.Counting.{count_among}
use Rattle.scan_story.specs.Legal.{Legal}
use Rattle.scan_story.specs.Loads.{begin_fill, end_fill, if_open, underway}
use Rattle.scan_story.specs.MayFollow.{Allowed}
use Rattle.scan_story.specs.Spent.{deliveries, loads, reads}
use Rattle.scan_story.specs.Views.{History}

abbrev pub is_register : Entry → Bool
is_register (Register w q) = true
is_register _ = false

abbrev pub is_plan : Entry → Bool
is_plan (Plan w q c) = true
is_plan _ = false

abbrev pub is_evict : Entry → Bool
is_evict (Evict w c) = true
is_evict _ = false

abbrev pub is_fill : Entry → Bool
is_fill (Fill w f p) = true
is_fill _ = false

abbrev pub is_release : Entry → Bool
is_release (Release w q c) = true
is_release _ = false

abbrev pub is_stop : Entry → Bool
is_stop (Stop w q) = true
is_stop _ = false

abbrev pub is_end : Entry → Bool
is_end (End w q) = true
is_end _ = false

abbrev pub plans : History → ℕ
plans h = count_among is_plan h

-- each entry is of one kind
pub length_is : (h : History) → length h ≡ count_among is_register h + plans h + count_among is_evict h + count_among is_fill h + reads h + deliveries h + count_among is_release h + count_among is_stop h + count_among is_end h
length_is [] = refl
length_is (Register w q ∷ h) = omega (arith, length_is h)
length_is (Plan w q c ∷ h) = omega (arith, length_is h)
length_is (Evict w c ∷ h) = omega (arith, length_is h)
length_is (Fill w f p ∷ h) = omega (arith, length_is h)
length_is (Filled w f p ∷ h) = omega (arith, length_is h)
length_is (Failed w q p why ∷ h) = omega (arith, length_is h)
length_is (Deliver w q c ∷ h) = omega (arith, length_is h)
length_is (Release w q c ∷ h) = omega (arith, length_is h)
length_is (Stop w q ∷ h) = omega (arith, length_is h)
length_is (End w q ∷ h) = omega (arith, length_is h)

-- Each load and each load underway had its plan

abbrev pub going : Option Load → ℕ
going None = 0
going (Some l) = 1

abbrev Started : Setting → History → Type 0
Started s h = loads s h + going (underway s h) ≤ plans h

going_map : (g : Load → Load) (u : Option Load) → going (option_map g u) ≡ going u
going_map g None = refl
going_map g (Some l) = refl

close_load : (a : Bool) (u : Option Load) (n m : ℕ) → n + 1 ≤ m → (if a && is_none u then n + 1 else n) + going u ≤ m
close_load true None n m le = omega (arith, le)
close_load false None n m le = omega (arith, le)
close_load true (Some l) n m le = omega (arith, le)
close_load false (Some l) n m le = omega (arith, le)

started_next : (s : Setting) (h : History) (e : Entry) → Allowed s h e → Started s h → Started s (e ∷ h)
started_next s h (Plan w q c) may k = let before : going (underway s h) ≡ 0 = ap going may.none_underway in omega (arith, k)
started_next s h (Fill w f p) may k = omega (arith, k, going_map (begin_fill f p) (underway s h))
started_next s h (Filled w f p) may k =
    let before : going (underway s h) ≡ 1 = ap going may.is_load.underway in
    let enough : loads s h + 1 ≤ plans h = omega (arith, k, before) in
    close_load (is_some (underway s h)) (if_open (option_map (end_fill p) (underway s h))) (loads s h) (plans h) enough
started_next s h (Failed w q p why) may k = omega (arith, k)
started_next s h (Register w q) may k = k
started_next s h (Evict w c) may k = k
started_next s h (Deliver w q c) may k = k
started_next s h (Release w q c) may k = k
started_next s h (Stop w q) may k = k
started_next s h (End w q) may k = k

pub started : (s : Setting) (h : History) → Legal s h → Started s h
started s [] legal = omega arith
started s (e ∷ h) legal = started_next s h e legal.0 (started s h legal.2)
