-- What is remembered of workers, after one more entry.
use Rattle.std.proofs.Common.{◌≡◌, ◌≢◌, ◌<◌, ◌==◌, ◌||◌, ◌∷◌, [], ◌++◌, ℕ, Bool, true, false, List, map, length, get_or, set, Option, None, Some, IfSome, refl, sym, ◌∙◌, ap, subst, arith, inl, inr}
use Rattle.std.specs.List.{AllByRecursion}
use Rattle.std.proofs.lemmas.Bool.{cases_eq}
use Rattle.std.proofs.lemmas.List.{append_assoc, append-nil, get_or-set_same, get_or-set_other}
use Rattle.scan_story.specs.declared.entry.Entry.{Entry}
use Rattle.scan_story.specs.declared.entry.Entry.TheVariants.{Register, Plan, Evict, Fill, Filled, Failed, Deliver, Release, Stop, End}
use Rattle.scan_story.specs.declared.setting.Setting.{Setting}
use Rattle.scan_story.specs.Setting.{worker_of}
use Rattle.scan_story.specs.Views.{History, past, registers, is_ended, is_registered, held_by}
use Rattle.scan_story.proofs.Prefixes.{past_next}
use Rattle.chunk_interest.proofs.Below.{other_number}
use Rattle.interest_book.proofs.Holding.{delivered_other, released_other}
use Rattle.abm_policy.specs.Turns.{RunsOn}
use Rattle.trial_desk.specs.declared.seat.Seat.{Seat}
use Rattle.trial_desk.specs.Rigged.{empty_seat, IsSeat, AreSeats}

on_map : (o : Option ℕ) (P Q : ℕ → Type 0) → ((q : ℕ) → P q → Q q) → IfSome o P → IfSome o Q
on_map None P Q f k = k
on_map (Some q) P Q f k = f q k

-- Entries that no seat shows

abbrev pub IsQuiet : Entry → Type 0
IsQuiet (Plan w q c) = Unit {0}
IsQuiet (Evict w c) = Unit {0}
IsQuiet (Fill w f p) = Unit {0}
IsQuiet (Filled w f p) = Unit {0}
IsQuiet (Failed w q p why) = Unit {0}
IsQuiet (Stop w q) = Unit {0}
IsQuiet _ = ⊥

runs_on : (s : Setting) (h : History) (e : Entry) (q w : ℕ) → IsQuiet e → RunsOn s h q w → RunsOn s (e ∷ h) q w
runs_on s h (Plan v r c) q w quiet k = record { on = k.on; registered = k.registered; not_ended = k.not_ended }
runs_on s h (Evict v c) q w quiet k = record { on = k.on; registered = k.registered; not_ended = k.not_ended }
runs_on s h (Fill v f p) q w quiet k = record { on = k.on; registered = k.registered; not_ended = k.not_ended }
runs_on s h (Filled v f p) q w quiet k = record { on = k.on; registered = k.registered; not_ended = k.not_ended }
runs_on s h (Failed v r p why) q w quiet k = record { on = k.on; registered = k.registered; not_ended = k.not_ended }
runs_on s h (Stop v r) q w quiet k = record { on = k.on; registered = k.registered; not_ended = k.not_ended }
runs_on s h (Register v r) q w quiet k = absurd quiet
runs_on s h (Deliver v r c) q w quiet k = absurd quiet
runs_on s h (Release v r c) q w quiet k = absurd quiet
runs_on s h (End v r) q w quiet k = absurd quiet

same_hold : (h : History) (e : Entry) (w : ℕ) → IsQuiet e → held_by (e ∷ h) w ≡ held_by h w
same_hold h (Plan v r c) w quiet = refl
same_hold h (Evict v c) w quiet = refl
same_hold h (Fill v f p) w quiet = refl
same_hold h (Filled v f p) w quiet = refl
same_hold h (Failed v r p why) w quiet = refl
same_hold h (Stop v r) w quiet = refl
same_hold h (Register v r) w quiet = absurd quiet
same_hold h (Deliver v r c) w quiet = absurd quiet
same_hold h (Release v r c) w quiet = absurd quiet
same_hold h (End v r) w quiet = absurd quiet

pub seats_quiet : (s : Setting) (h : History) (seats : List Seat) (e : Entry) → IsQuiet e → AreSeats s h seats → AreSeats s (e ∷ h) seats
seats_quiet s h seats e quiet are = λ w lt.
    (let k = are w lt in
    let seat = get_or seats w empty_seat in
    record {
      holds = k.holds ∙ sym (same_hold h e w quiet);
      on = on_map seat.on (λ q. RunsOn s h q w) (λ q. RunsOn s (e ∷ h) q w) (λ q r. runs_on s h e q w quiet r) k.on;
    })

pub seats_more : (s : Setting) (es new : List Entry) (seats : List Seat) → AllByRecursion IsQuiet new → AreSeats s (past es) seats → AreSeats s (past (es ++ new)) seats
seats_more s es [] seats all are = subst (λ (xs : List Entry). AreSeats s (past xs) seats) (sym (append-nil es)) are
seats_more s es (e ∷ new) seats all are =
    let next : AreSeats s (past (es ++ e ∷ [])) seats = subst (λ (h : History). AreSeats s h seats) (sym (past_next es e)) (seats_quiet s (past es) seats e all.0 are) in
    subst (λ (xs : List Entry). AreSeats s (past xs) seats) (append_assoc es (e ∷ []) new) (seats_more s (es ++ e ∷ []) new seats all.1 next)

pub quiet_map : {X : Type 0} (f : X → Entry) (xs : List X) → ((x : X) → IsQuiet (f x)) → AllByRecursion IsQuiet (map f xs)
quiet_map f [] quiet = tt
quiet_map f (x ∷ xs) quiet = (quiet x, quiet_map f xs quiet)

pub quiet_joined : (es new : List Entry) → AllByRecursion IsQuiet es → AllByRecursion IsQuiet new → AllByRecursion IsQuiet (es ++ new)
quiet_joined [] new all more = more
quiet_joined (e ∷ es) new all more = (all.0, quiet_joined es new all.1 more)

-- Entries that one seat shows

pub seats_set : (s : Setting) (h k : History) (seats : List Seat) (w : ℕ) (seat : Seat) → w < length seats → IsSeat s k w seat → ((v : ℕ) (x : Seat) → v ≢ w → IsSeat s h v x → IsSeat s k v x)
    → AreSeats s h seats → AreSeats s k (set seats w seat)
seats_set s h k seats w seat inside here others are = λ v lt.
    elim (cases_eq v w) [
      | inl at ↦ subst (λ (u : ℕ). IsSeat s k u (get_or (set seats w seat) u empty_seat)) (sym at) (subst (IsSeat s k w) (sym (get_or-set_same seats w seat empty_seat inside)) here)
      | inr ne ↦ subst (IsSeat s k v) (sym (get_or-set_other seats w v seat empty_seat ne)) (others v (get_or seats v empty_seat) ne (are v lt))
    ]

or_right : (a b : Bool) → b ≡ true → (a || b) ≡ true
or_right true b e = refl
or_right false b e = e

some_same : (a b : ℕ) → Some a ≡ Some b → a ≡ b
some_same a b e = ap (λ (o : Option ℕ). number o) e
  where
    number : Option ℕ → ℕ
    number None = 0
    number (Some n) = n

pub other_registered : (s : Setting) (h : History) (w r v : ℕ) (x : Seat) → IsSeat s h v x → IsSeat s (Register w r ∷ h) v x
other_registered s h w r v x k = record {
  holds = k.holds;
  on = on_map x.on (λ q. RunsOn s h q v) (λ q. RunsOn s (Register w r ∷ h) q v) (λ q k. record { on = k.on; registered = or_right (registers q (Register w r)) (is_registered h q) k.registered; not_ended = k.not_ended }) k.on;
}

pub other_ended : (s : Setting) (h : History) (w r v : ℕ) (x : Seat) → worker_of s r ≡ Some w → v ≢ w → IsSeat s h v x → IsSeat s (End w r ∷ h) v x
other_ended s h w r v x of ne k = record {
  holds = k.holds;
  on = on_map x.on (λ q. RunsOn s h q v) (λ q. RunsOn s (End w r ∷ h) q v) (λ q k. record {
    on = k.on;
    registered = k.registered;
    not_ended = ap (λ (b : Bool). b || is_ended h q) (other_number r q (λ at. ne (some_same v w (sym k.on ∙ (sym (ap (worker_of s) at) ∙ of))))) ∙ k.not_ended;
  }) k.on;
}

still_on : (s : Setting) (h : History) (e : Entry) (v : ℕ) (o : Option ℕ) → ((q : ℕ) → is_registered (e ∷ h) q ≡ is_registered h q) → ((q : ℕ) → is_ended (e ∷ h) q ≡ is_ended h q) → IfSome o (λ q. RunsOn s h q v) → IfSome o (λ q. RunsOn s (e ∷ h) q v)
still_on s h e v o registered ended k = on_map o (λ q. RunsOn s h q v) (λ q. RunsOn s (e ∷ h) q v) (λ q k. record { on = k.on; registered = registered q ∙ k.registered; not_ended = ended q ∙ k.not_ended }) k

pub other_delivered : (s : Setting) (h : History) (w r c v : ℕ) (x : Seat) → v ≢ w → IsSeat s h v x → IsSeat s (Deliver w r c ∷ h) v x
other_delivered s h w r c v x ne k = record {
  holds = k.holds ∙ sym (delivered_other h w r c v ne);
  on = still_on s h (Deliver w r c) v x.on (λ q. refl) (λ q. refl) k.on;
}

pub other_released : (s : Setting) (h : History) (w r c v : ℕ) (x : Seat) → v ≢ w → IsSeat s h v x → IsSeat s (Release w r c ∷ h) v x
other_released s h w r c v x ne k = record {
  holds = k.holds ∙ sym (released_other h w r c v ne);
  on = still_on s h (Release w r c) v x.on (λ q. refl) (λ q. refl) k.on;
}

pub on_released : (s : Setting) (h : History) (w r c : ℕ) (o : Option ℕ) → IfSome o (λ q. RunsOn s h q w) → IfSome o (λ q. RunsOn s (Release w r c ∷ h) q w)
on_released s h w r c o k = still_on s h (Release w r c) w o (λ q. refl) (λ q. refl) k
