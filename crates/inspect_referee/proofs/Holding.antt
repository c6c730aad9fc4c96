-- Where each entry may follow those before it, no chunk that is held is evicted, and no frame of it is filled.
use Rattle.std.proofs.Common.{◌≡◌, ◌<◌, ◌∷◌, [], ◌==◌, ◌||◌, ℕ, Bool, true, false, if◌then◌else◌, Option, None, Some, refl, sym, ◌∙◌, ap, subst}
use Rattle.scan_story.specs.declared.entry.Entry.{Entry}
use Rattle.scan_story.specs.declared.entry.Entry.TheVariants.{Deliver, End, Evict, Failed, Fill, Filled, Plan, Register, Release, Stop}
use Rattle.scan_story.specs.declared.setting.Setting.{Setting}
use Rattle.scan_story.specs.declared.view.Hold.{Hold}
use Rattle.scan_story.specs.MayFollow.{Allowed, MayDeliver}
use Rattle.scan_story.specs.Setting.{IsSetting, chunk_of}
use Rattle.scan_story.specs.Views.{History, held_by, is_held, is_hold_of, piece_in}
use Rattle.scan_story.specs.Whole.{Undisturbed, had_piece, has_taken, is_piece_of}
use Rattle.story_laws.proofs.Bools.{either, if_not, none_some, not_both, same_number, same_some, unequal}
use Rattle.story_laws.proofs.Grouped.{worker_below}
use Rattle.story_laws.proofs.Holds.{StillHeld, StillThere, kept_hold, new_hold, not_idle, old_hold}
use Rattle.story_laws.proofs.Proper.{victim}
use Rattle.story_laws.proofs.Standing.{evict_leaves, fill_leaves, filled_leaves, free_empty}
use Rattle.chunk_interest.specs.Follows.{AllMayFollow}
use Rattle.chunk_interest.proofs.Below.{none_at}
use Rattle.chunk_interest.proofs.Kept.{Keeps, keeps}

-- what is kept of chunks that are held: who holds one is a worker, what was taken is held, and its pieces stand where they stood
record Holding (s : Setting) (h : History) : Type 0 where
  holder : (w : ℕ) (o : Hold) → held_by h w ≡ Some o → w < s.workers
  taken : (w c : ℕ) → has_taken h w c ≡ true → StillHeld h w c
  had : (w f : ℕ) → had_piece s h w f ≡ true → StillThere s h w f

-- Deliver

abbrev delivered : ℕ → ℕ → Hold
delivered q c = record { query = q; chunk = c }

holder_deliver : (P : Type 0) (b : Bool) (x o : Hold) (u : Option Hold) → (b ≡ true → P) → (u ≡ Some o → P) → (if b then Some x else u) ≡ Some o → P
holder_deliver P true x o u new old e = new refl
holder_deliver P false x o u new old e = old e

piece_of : (s : Setting) (c : ℕ) (o : Option ℕ) → is_piece_of s c o ≡ true → (p : ℕ) × (o ≡ Some p) × (chunk_of s p ≡ c)
piece_of s c None e = absurd (not_both false e refl)
piece_of s c (Some p) e = (p, refl, same_number (chunk_of s p) c e)

taken_deliver : (h : History) (v q d w c : ℕ) → held_by h v ≡ None → (has_taken h w c ≡ true → StillHeld h w c) → (b : Bool) → (v == w) ≡ b
    → (if b then (d == c || has_taken h w c) else has_taken h w c) ≡ true → StillHeld (Deliver v q d ∷ h) w c
taken_deliver h v q d w c none old true t e =
    either (d == c) (has_taken h w c) e (λ a. record { hold = delivered q d; held = new_hold h v q d w t; chunk = same_number d c a })
    (λ a. (let x = old a in absurd (not_idle h v w x.hold none t x.held)))
taken_deliver h v q d w c none old false t e = let x = old e in record { hold = x.hold; held = old_hold h v q d w t ∙ x.held; chunk = x.chunk }

had_deliver : (s : Setting) (h : History) (v q d w f : ℕ) → held_by h v ≡ None → (had_piece s h w f ≡ true → StillThere s h w f) → (b : Bool) → (v == w) ≡ b
    → (if b then (is_piece_of s d (piece_in s h f) || had_piece s h w f) else had_piece s h w f) ≡ true → StillThere s (Deliver v q d ∷ h) w f
had_deliver s h v q d w f none old true t e =
    either (is_piece_of s d (piece_in s h f)) (had_piece s h w f) e
    (λ a. (let p = piece_of s d (piece_in s h f) a in record { hold = delivered q d; piece = p.0; held = new_hold h v q d w t; stands = p.1; of_chunk = p.2 }))
    (λ a. (let x = old a in absurd (not_idle h v w x.hold none t x.held)))
had_deliver s h v q d w f none old false t e =
    let x = old e in record { hold = x.hold; piece = x.piece; held = old_hold h v q d w t ∙ x.held; stands = x.stands; of_chunk = x.of_chunk }

holding_deliver : (s : Setting) (h : History) (v q c : ℕ) → IsSetting s → MayDeliver s h v q c → Holding s h → Holding s (Deliver v q c ∷ h)
holding_deliver s h v q c ok may k = record {
  holder = λ w o. holder_deliver (w < s.workers) (v == w) (delivered q c) o (held_by h w)
      (λ t. (let P : ℕ → Type 0 = λ n. n < s.workers in subst P (same_number v w t) (worker_below s q v ok may.on.on))) (k.holder w o);
  taken = λ w d. taken_deliver h v q c w d may.idle.holds_nothing (k.taken w d) (v == w) refl;
  had = λ w f. had_deliver s h v q c w f may.idle.holds_nothing (k.had w f) (v == w) refl;
}

-- Release

dropped : (P : Type 0) (b : Bool) (o : Hold) (u : Option Hold) → (u ≡ Some o → P) → (if b then None else u) ≡ Some o → P
dropped P true o u old e = absurd (none_some o e)
dropped P false o u old e = old e

taken_release : (h : History) (v q d w c : ℕ) → (has_taken h w c ≡ true → StillHeld h w c) → (b : Bool) → (v == w) ≡ b → (if b then false else has_taken h w c) ≡ true → StillHeld (Release v q d ∷ h) w c
taken_release h v q d w c old true t e = absurd (not_both false e refl)
taken_release h v q d w c old false t e = let x = old e in record { hold = x.hold; held = kept_hold h v q d w t ∙ x.held; chunk = x.chunk }

had_release : (s : Setting) (h : History) (v q d w f : ℕ) → (had_piece s h w f ≡ true → StillThere s h w f) → (b : Bool) → (v == w) ≡ b → (if b then false else had_piece s h w f) ≡ true → StillThere s (Release v q d ∷ h) w f
had_release s h v q d w f old true t e = absurd (not_both false e refl)
had_release s h v q d w f old false t e = let x = old e in record { hold = x.hold; piece = x.piece; held = kept_hold h v q d w t ∙ x.held; stands = x.stands; of_chunk = x.of_chunk }

holding_release : (s : Setting) (h : History) (v q c : ℕ) → Holding s h → Holding s (Release v q c ∷ h)
holding_release s h v q c k = record {
  holder = λ w o. dropped (w < s.workers) (v == w) o (held_by h w) (k.holder w o);
  taken = λ w d. taken_release h v q c w d (k.taken w d) (v == w) refl;
  had = λ w f. had_release s h v q c w f (k.had w f) (v == w) refl;
}

-- Entries that change no hold

-- each piece of a chunk that is held stays where it stands
abbrev StaysHeld : Setting → History → History → Type 0
StaysHeld s h k = (w f p : ℕ) (o : Hold) → held_by h w ≡ Some o → chunk_of s p ≡ o.chunk → piece_in s h f ≡ Some p → piece_in s k f ≡ Some p

unmoved : (s : Setting) (h k : History) → ((w : ℕ) → held_by k w ≡ held_by h w) → ((w c : ℕ) → has_taken k w c ≡ has_taken h w c) → ((w f : ℕ) → had_piece s k w f ≡ had_piece s h w f)
    → StaysHeld s h k → Holding s h → Holding s k
unmoved s h k held took pieces stays r = record {
  holder = λ w o e. r.holder w o (sym (held w) ∙ e);
  taken = λ w c e. (let x = r.taken w c (sym (took w c) ∙ e) in record { hold = x.hold; held = held w ∙ x.held; chunk = x.chunk });
  had = λ w f e. (let x = r.had w f (sym (pieces w f) ∙ e) in
      record { hold = x.hold; piece = x.piece; held = held w ∙ x.held; stands = stays w f x.piece x.hold x.held x.of_chunk x.stands; of_chunk = x.of_chunk });
}

-- what is held by nobody isn't what a worker holds
not_held : (s : Setting) (h : History) (w c : ℕ) (o : Hold) → Holding s h → is_held s h c ≡ false → held_by h w ≡ Some o → (o.chunk == c) ≡ false
not_held s h w c o k none e = sym (ap (is_hold_of c) e) ∙ none_at (λ v. is_hold_of c (held_by h v)) s.workers w none (k.holder w o e)

-- All

holding_next : (s : Setting) (h : History) (e : Entry) → IsSetting s → Keeps s h → Allowed s h e → Holding s h → Holding s (e ∷ h)
holding_next s h (Deliver w q c) ok r may k = holding_deliver s h w q c ok may k
holding_next s h (Release w q c) ok r may k = holding_release s h w q c k
holding_next s h (Evict w c) ok r may k =
    unmoved s h (Evict w c ∷ h) (λ v. refl) (λ v d. refl) (λ v f. refl)
    (λ v f p o e of stands. evict_leaves s h w c f p (ap (λ x. x == c) of ∙ not_held s h v c o k (victim s h c may.victim).not_held e) stands) k
holding_next s h (Fill w f p) ok r may k =
    unmoved s h (Fill w f p ∷ h) (λ v. refl) (λ v d. refl) (λ v e. refl) (λ v e x o i j stands. fill_leaves s h w f p (free_empty s h f may.free) e x stands) k
holding_next s h (Filled w f p) ok r may k =
    unmoved s h (Filled w f p ∷ h) (λ v. refl) (λ v d. refl) (λ v e. refl)
    (λ v e x o i j stands. filled_leaves s h w f p (((r.load may.load may.is_load.underway).fills f p may.begun).empty may.not_filled) e x stands) k
holding_next s h (Register w q) ok r may k = unmoved s h (Register w q ∷ h) (λ v. refl) (λ v d. refl) (λ v f. refl) (λ v f p o i j stands. stands) k
holding_next s h (Plan w q c) ok r may k = unmoved s h (Plan w q c ∷ h) (λ v. refl) (λ v d. refl) (λ v f. refl) (λ v f p o i j stands. stands) k
holding_next s h (Failed w q p why) ok r may k = unmoved s h (Failed w q p why ∷ h) (λ v. refl) (λ v d. refl) (λ v f. refl) (λ v f x o i j stands. stands) k
holding_next s h (Stop w q) ok r may k = unmoved s h (Stop w q ∷ h) (λ v. refl) (λ v d. refl) (λ v f. refl) (λ v f p o i j stands. stands) k
holding_next s h (End w q) ok r may k = unmoved s h (End w q ∷ h) (λ v. refl) (λ v d. refl) (λ v f. refl) (λ v f p o i j stands. stands) k

holding : (s : Setting) (h : History) → IsSetting s → AllMayFollow s h → Holding s h
holding s [] ok all = record {
  holder = λ w o e. absurd (none_some o e);
  taken = λ w c e. absurd (not_both false e refl);
  had = λ w f e. absurd (not_both false e refl);
}
holding s (e ∷ h) ok all = holding_next s h e ok (keeps s h ok all.1) all.0 (holding s h ok all.1)

untaken : (s : Setting) (h : History) (v c : ℕ) → Holding s h → is_held s h c ≡ false → has_taken h v c ≡ false
untaken s h v c k none = if_not (has_taken h v c) (λ t. (let x = k.taken v c t in unequal x.hold.chunk c (not_held s h v c x.hold k none x.held) x.chunk))

pieceless : (s : Setting) (h : History) (v f : ℕ) → Holding s h → piece_in s h f ≡ None → had_piece s h v f ≡ false
pieceless s h v f k none = if_not (had_piece s h v f) (λ t. (let x = k.had v f t in none_some x.piece (sym none ∙ x.stands)))

pub undisturbed : (s : Setting) (h : History) → IsSetting s → AllMayFollow s h → Undisturbed s h
undisturbed s [] ok all = tt
undisturbed s (Evict w c ∷ h) ok all =
    (λ v lt. untaken s h v c (holding s h ok all.1) (let may = all.0 in (victim s h c may.victim).not_held), undisturbed s h ok all.1)
undisturbed s (Fill w f p ∷ h) ok all =
    (λ v lt. pieceless s h v f (holding s h ok all.1) (let may = all.0 in free_empty s h f may.free), undisturbed s h ok all.1)
undisturbed s (Register w q ∷ h) ok all = undisturbed s h ok all.1
undisturbed s (Plan w q c ∷ h) ok all = undisturbed s h ok all.1
undisturbed s (Filled w f p ∷ h) ok all = undisturbed s h ok all.1
undisturbed s (Failed w q p why ∷ h) ok all = undisturbed s h ok all.1
undisturbed s (Deliver w q c ∷ h) ok all = undisturbed s h ok all.1
undisturbed s (Release w q c ∷ h) ok all = undisturbed s h ok all.1
undisturbed s (Stop w q ∷ h) ok all = undisturbed s h ok all.1
undisturbed s (End w q ∷ h) ok all = undisturbed s h ok all.1
