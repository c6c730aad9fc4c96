-- Chunks that are held: who holds them, and where their pieces stand.
use Rattle.std.proofs.Common.{◌≡◌, ◌∷◌, [], ◌==◌, ◌||◌, ℕ, Bool, true, false, if◌then◌else◌, Option, None, Some, nat_lt, refl, sym, ◌∙◌, ap, subst}
use Rattle.scan_story.specs.declared.entry.Entry.{Entry}
use Rattle.scan_story.specs.declared.entry.Entry.TheVariants.{Deliver, End, Evict, Failed, Fill, Filled, Plan, Register, Release, Stop}
use Rattle.scan_story.specs.declared.setting.Setting.{Setting}
use Rattle.scan_story.specs.declared.view.Hold.{Hold}
use Rattle.scan_story.specs.Legal.{Legal}
use Rattle.scan_story.specs.MayFollow.{Allowed, MayDeliver}
use Rattle.scan_story.specs.Setting.{IsSetting, chunk_of}
use Rattle.scan_story.specs.Views.{History, held_by, is_available, is_held, is_hold_of, is_wholly_framed, needs_chunk, piece_in}
use Rattle.scan_story.specs.Whole.{had_piece, has_taken, is_piece_of}
use Rattle.story_laws.specs.Frames.{HeldAreFramed, HoldersAreWorkers, IsHolder}
use Rattle.story_laws.proofs.Bools.{and_both, either, if_here, if_other, none_some, not_both, same_number, same_some}
use Rattle.story_laws.proofs.Counts.{any_none_at}
use Rattle.story_laws.proofs.Grouped.{Grouped, worker_below}
use Rattle.story_laws.proofs.Proper.{Sound, filling, sound, victim}
use Rattle.story_laws.proofs.Standing.{evict_leaves, fill_leaves, filled_leaves, framed_at, framed_where, free_empty, whole_more}

-- the worker holds the chunk
pub record StillHeld (h : History) (w c : ℕ) : Type 0 where
  pub hold : Hold
  pub held : held_by h w ≡ Some hold
  pub chunk : hold.chunk ≡ c

-- the frame has a piece of what the worker holds
pub record StillThere (s : Setting) (h : History) (w f : ℕ) : Type 0 where
  pub hold : Hold
  pub piece : ℕ
  pub held : held_by h w ≡ Some hold
  pub stands : piece_in s h f ≡ Some piece
  pub of_chunk : chunk_of s piece ≡ hold.chunk

-- what every legal history keeps of chunks that are held
pub record Holding (s : Setting) (h : History) : Type 0 where
  pub holder : HoldersAreWorkers s h
  pub framed : HeldAreFramed s h
  pub taken : (w c : ℕ) → has_taken h w c ≡ true → StillHeld h w c
  pub had : (w f : ℕ) → had_piece s h w f ≡ true → StillThere s h w f

piece_of : (s : Setting) (c : ℕ) (o : Option ℕ) → is_piece_of s c o ≡ true → (p : ℕ) × (o ≡ Some p) × (chunk_of s p ≡ c)
piece_of s c None e = absurd (not_both false e refl)
piece_of s c (Some p) e = (p, refl, same_number (chunk_of s p) c e)

-- Deliver

abbrev delivered : ℕ → ℕ → Hold
delivered q c = record { query = q; chunk = c }

pub new_hold : (h : History) (v q c w : ℕ) → (v == w) ≡ true → held_by (Deliver v q c ∷ h) w ≡ Some (record { query = q; chunk = c })
new_hold h v q c w t = if_here (v == w) (Some (delivered q c)) (held_by h w) t

pub old_hold : (h : History) (v q c w : ℕ) → (v == w) ≡ false → held_by (Deliver v q c ∷ h) w ≡ held_by h w
old_hold h v q c w t = if_other (v == w) (Some (delivered q c)) (held_by h w) t

-- who holds nothing isn't the holder
pub not_idle : (h : History) (v w : ℕ) (o : Hold) → held_by h v ≡ None → (v == w) ≡ true → held_by h w ≡ Some o → ⊥
not_idle h v w o none t e = none_some o (sym none ∙ (ap (held_by h) (same_number v w t) ∙ e))

given : (P : Hold → Type 0) (b : Bool) (x o : Hold) (u : Option Hold) → (b ≡ true → P x) → (u ≡ Some o → P o) → (if b then Some x else u) ≡ Some o → P o
given P true x o u new old e = subst P (same_some x o e) (new refl)
given P false x o u new old e = old e

taken_deliver : (h : History) (v q d w c : ℕ) → held_by h v ≡ None → (has_taken h w c ≡ true → StillHeld h w c) → (b : Bool) → (v == w) ≡ b
    → (if b then (d == c || has_taken h w c) else has_taken h w c) ≡ true → StillHeld (Deliver v q d ∷ h) w c
taken_deliver h v q d w c none old true t e =
    either (d == c) (has_taken h w c) e (λ a. record { hold = delivered q d; held = new_hold h v q d w t; chunk = same_number d c a })
    (λ a. (let x = old a in absurd (not_idle h v w x.hold none t x.held)))
taken_deliver h v q d w c none old false t e = let x = old e in record { hold = x.hold; held = old_hold h v q d w t ∙ x.held; chunk = x.chunk }

had_deliver : (s : Setting) (h : History) (v q d w f : ℕ) → held_by h v ≡ None → (had_piece s h w f ≡ true → StillThere s h w f) → (b : Bool) → (v == w) ≡ b
    → (if b then (is_piece_of s d (piece_in s h f) || had_piece s h w f) else had_piece s h w f) ≡ true → StillThere s (Deliver v q d ∷ h) w f
had_deliver s h v q d w f none old true t e =
    either (is_piece_of s d (piece_in s h f)) (had_piece s h w f) e
    (λ a. (let p = piece_of s d (piece_in s h f) a in record { hold = delivered q d; piece = p.0; held = new_hold h v q d w t; stands = p.1; of_chunk = p.2 }))
    (λ a. (let x = old a in absurd (not_idle h v w x.hold none t x.held)))
had_deliver s h v q d w f none old false t e =
    let x = old e in record { hold = x.hold; piece = x.piece; held = old_hold h v q d w t ∙ x.held; stands = x.stands; of_chunk = x.of_chunk }

holding_deliver : (s : Setting) (h : History) (v q c : ℕ) → IsSetting s → MayDeliver s h v q c → Holding s h → Holding s (Deliver v q c ∷ h)
holding_deliver s h v q c m may k =
    let whole : is_wholly_framed s h q c ≡ true = (and_both (needs_chunk s h q c) (is_wholly_framed s h q c) (and_both (nat_lt c s.chunks) (is_available s h q c) may.ready).1).1 in
    let on : IsHolder s v (delivered q c) = record { worker = worker_below s q v m may.on.on; on = may.on.on } in
    record {
      holder = λ w o. given (IsHolder s w) (v == w) (delivered q c) o (held_by h w) (λ t. (let P : ℕ → Type 0 = λ n. IsHolder s n (delivered q c) in subst P (same_number v w t) on)) (k.holder w o);
      framed = λ w o. given (λ x. is_wholly_framed s h x.query x.chunk ≡ true) (v == w) (delivered q c) o (held_by h w) (λ t. whole) (k.framed w o);
      taken = λ w d. taken_deliver h v q c w d may.idle.holds_nothing (k.taken w d) (v == w) refl;
      had = λ w f. had_deliver s h v q c w f may.idle.holds_nothing (k.had w f) (v == w) refl;
    }

-- Release

dropped : (P : Hold → Type 0) (b : Bool) (o : Hold) (u : Option Hold) → (u ≡ Some o → P o) → (if b then None else u) ≡ Some o → P o
dropped P true o u old e = absurd (none_some o e)
dropped P false o u old e = old e

pub kept_hold : (h : History) (v q c w : ℕ) → (v == w) ≡ false → held_by (Release v q c ∷ h) w ≡ held_by h w
kept_hold h v q c w t = if_other (v == w) None (held_by h w) t

taken_release : (h : History) (v q d w c : ℕ) → (has_taken h w c ≡ true → StillHeld h w c) → (b : Bool) → (v == w) ≡ b → (if b then false else has_taken h w c) ≡ true → StillHeld (Release v q d ∷ h) w c
taken_release h v q d w c old true t e = absurd (not_both false e refl)
taken_release h v q d w c old false t e = let x = old e in record { hold = x.hold; held = kept_hold h v q d w t ∙ x.held; chunk = x.chunk }

had_release : (s : Setting) (h : History) (v q d w f : ℕ) → (had_piece s h w f ≡ true → StillThere s h w f) → (b : Bool) → (v == w) ≡ b → (if b then false else had_piece s h w f) ≡ true → StillThere s (Release v q d ∷ h) w f
had_release s h v q d w f old true t e = absurd (not_both false e refl)
had_release s h v q d w f old false t e = let x = old e in record { hold = x.hold; piece = x.piece; held = kept_hold h v q d w t ∙ x.held; stands = x.stands; of_chunk = x.of_chunk }

holding_release : (s : Setting) (h : History) (v q c : ℕ) → Holding s h → Holding s (Release v q c ∷ h)
holding_release s h v q c k = record {
  holder = λ w o. dropped (IsHolder s w) (v == w) o (held_by h w) (k.holder w o);
  framed = λ w o. dropped (λ x. is_wholly_framed s h x.query x.chunk ≡ true) (v == w) o (held_by h w) (k.framed w o);
  taken = λ w d. taken_release h v q c w d (k.taken w d) (v == w) refl;
  had = λ w f. had_release s h v q c w f (k.had w f) (v == w) refl;
}

-- Entries that change no hold

-- each piece of a chunk that is held stays where it stands
abbrev StaysHeld : Setting → History → History → Type 0
StaysHeld s h k = (w f p : ℕ) (o : Hold) → held_by h w ≡ Some o → chunk_of s p ≡ o.chunk → piece_in s h f ≡ Some p → piece_in s k f ≡ Some p

unmoved : (s : Setting) (h k : History) → Grouped s → ((w : ℕ) → held_by k w ≡ held_by h w) → ((w c : ℕ) → has_taken k w c ≡ has_taken h w c) → ((w f : ℕ) → had_piece s k w f ≡ had_piece s h w f)
    → StaysHeld s h k → Holding s h → Holding s k
unmoved s h k g held took pieces stays r = record {
  holder = λ w o e. r.holder w o (sym (held w) ∙ e);
  framed = λ w o e. (
      let was = sym (held w) ∙ e in
      whole_more s h k o.query o.chunk (λ p m on. (let j = framed_where s h p on in framed_at s k j.0 p j.1 (stays w j.0 p o was (g.read o.query o.chunk p m) j.2))) (r.framed w o was)
      );
  taken = λ w c e. (let x = r.taken w c (sym (took w c) ∙ e) in record { hold = x.hold; held = held w ∙ x.held; chunk = x.chunk });
  had = λ w f e. (let x = r.had w f (sym (pieces w f) ∙ e) in
      record { hold = x.hold; piece = x.piece; held = held w ∙ x.held; stands = stays w f x.piece x.hold x.held x.of_chunk x.stands; of_chunk = x.of_chunk });
}

-- what is held by nobody isn't what a worker holds
pub not_held : (s : Setting) (h : History) (w c : ℕ) (o : Hold) → HoldersAreWorkers s h → is_held s h c ≡ false → held_by h w ≡ Some o → (o.chunk == c) ≡ false
not_held s h w c o on none e = sym (ap (is_hold_of c) e) ∙ any_none_at (λ v. is_hold_of c (held_by h v)) s.workers w none (on w o e).worker

evict_stays_held : (s : Setting) (h : History) (v c : ℕ) → HoldersAreWorkers s h → is_held s h c ≡ false → StaysHeld s h (Evict v c ∷ h)
evict_stays_held s h v c on none w f p o e of stands = evict_leaves s h v c f p (ap (λ x. x == c) of ∙ not_held s h w c o on none e) stands

-- All

holding_next : (s : Setting) (h : History) (e : Entry) → IsSetting s → Grouped s → Sound s h → Allowed s h e → Holding s h → Holding s (e ∷ h)
holding_next s h (Deliver w q c) m g r may k = holding_deliver s h w q c m may k
holding_next s h (Release w q c) m g r may k = holding_release s h w q c k
holding_next s h (Evict w c) m g r may k =
    unmoved s h (Evict w c ∷ h) g (λ v. refl) (λ v d. refl) (λ v f. refl) (evict_stays_held s h w c k.holder (victim s h c may.victim).not_held) k
holding_next s h (Fill w f p) m g r may k =
    unmoved s h (Fill w f p ∷ h) g (λ v. refl) (λ v d. refl) (λ v e. refl) (λ v e x o i j stands. fill_leaves s h w f p (free_empty s h f may.free) e x stands) k
holding_next s h (Filled w f p) m g r may k =
    unmoved s h (Filled w f p ∷ h) g (λ v. refl) (λ v d. refl) (λ v e. refl)
    (λ v e x o i j stands. filled_leaves s h w f p (filling s h w f p may (r.load may.load may.is_load.underway)).empty e x stands) k
holding_next s h (Register w q) m g r may k = unmoved s h (Register w q ∷ h) g (λ v. refl) (λ v d. refl) (λ v f. refl) (λ v f p o i j stands. stands) k
holding_next s h (Plan w q c) m g r may k = unmoved s h (Plan w q c ∷ h) g (λ v. refl) (λ v d. refl) (λ v f. refl) (λ v f p o i j stands. stands) k
holding_next s h (Failed w q p why) m g r may k = unmoved s h (Failed w q p why ∷ h) g (λ v. refl) (λ v d. refl) (λ v f. refl) (λ v f x o i j stands. stands) k
holding_next s h (Stop w q) m g r may k = unmoved s h (Stop w q ∷ h) g (λ v. refl) (λ v d. refl) (λ v f. refl) (λ v f p o i j stands. stands) k
holding_next s h (End w q) m g r may k = unmoved s h (End w q ∷ h) g (λ v. refl) (λ v d. refl) (λ v f. refl) (λ v f p o i j stands. stands) k

pub holding : (s : Setting) (h : History) → IsSetting s → Grouped s → Legal s h → Holding s h
holding s [] m g legal = record {
  holder = λ w o e. absurd (none_some o e);
  framed = λ w o e. absurd (none_some o e);
  taken = λ w c e. absurd (not_both false e refl);
  had = λ w f e. absurd (not_both false e refl);
}
holding s (e ∷ h) m g legal = holding_next s h e m g (sound s h g legal.2) legal.0 (holding s h m g legal.2)
