-- An entry leaves the clients of the queries that it doesn't touch.
use Rattle.std.proofs.Common.{◌≡◌, ◌≢◌, ◌<◌, ◌+◌, ◌-◌, ◌∷◌, [], ◌&&◌, ◌==◌, ℕ, Bool, true, false, List, length, get_or, set, Option, None, Some, refl, sym, ◌∙◌, ap, subst, arith, inl, inr}
use Rattle.std.specs.Option.{option_map}
use Rattle.std.proofs.lemmas.Bool.{cases_eq}
use Rattle.std.proofs.lemmas.Bool.Decides.{nat_tests}
use Rattle.std.proofs.lemmas.List.{get_or-set_same, get_or-set_other, length-set}
use Rattle.scan_story.specs.declared.entry.Entry.{Entry}
use Rattle.scan_story.specs.declared.entry.Why.{Why}
use Rattle.scan_story.specs.declared.entry.Entry.TheVariants.{Register, Plan, Evict, Fill, Filled, Failed, Deliver, Release, Stop, End}
use Rattle.scan_story.specs.declared.setting.Setting.{Setting}
use Rattle.std.specs.List.{list_all}
use Rattle.scan_story.specs.Setting.{pieces_read}
use Rattle.scan_story.specs.Views.{History, needs_chunk, piece_in, is_framed, is_wholly_framed}
use Rattle.chunk_interest.specs.declared.client.Client.{Client}
use Rattle.chunk_interest.specs.Clients.{IsUpTo, IsWait, IsClient, AreClients, IsReady, AreReady, Spares, vacant}
use Rattle.chunk_interest.proofs.Kept.{keep_framed}

-- a wait goes on
one_later : (n : ℕ) (o : Option ℕ) → IsUpTo n o → option_map (λ k. k + 1) (option_map (λ b. n - b) o) ≡ option_map (λ b. n + 1 - b) o
one_later n None past = refl
one_later n (Some b) past = let e : n - b + 1 ≡ n + 1 - b = omega (arith, past) in ap Some e

later : (n : ℕ) (o : Option ℕ) → IsUpTo n o → IsUpTo (n + 1) o
later n None past = tt
later n (Some b) past = omega (arith, past)

pub wait_on : (e : Entry) (h : History) (q : ℕ) (o : Option ℕ) → Spares q e → IsWait h q o → IsWait (e ∷ h) q o
wait_on e h q o spares is =
    let more : length (e ∷ h) ≡ length h + 1 = omega arith in
    record {
      past = subst (λ (n : ℕ). IsUpTo n o) (sym more) (later (length h) o is.past);
      since = rw spares.begins_wait (ap (option_map (λ n. n + 1)) is.since ∙ (one_later (length h) o is.past ∙ ap (λ (n : ℕ). option_map (λ b. n - b) o) (sym more)));
    }

pub client_on : (s : Setting) (e : Entry) (h : History) (q : ℕ) (k : Client) → Spares q e → IsClient s h q k → IsClient s (e ∷ h) q k
client_on s e h q k spares is = record {
  worker = is.worker;
  columns = is.columns;
  reads = is.reads;
  phase = rw (spares.stops, spares.ends, spares.registers) is.phase;
  remaining = λ c. rw (spares.stops, spares.ends, spares.delivers c) (is.remaining c);
  began = wait_on e h q k.began spares is.began;
}

pub clients_on : (s : Setting) (e : Entry) (h : History) (ks : List Client) → ((q : ℕ) → Spares q e) → AreClients s h ks → AreClients s (e ∷ h) ks
clients_on s e h ks spares are = λ q lt. client_on s e h q (get_or ks q vacant) (spares q) (are q lt)

-- the client of the one query that the entry touches is written anew
pub clients_set : (s : Setting) (e : Entry) (h : History) (ks : List Client) (q : ℕ) (k : Client) → q < length ks → ((r : ℕ) → r ≢ q → Spares r e)
    → AreClients s h ks → IsClient s (e ∷ h) q k → AreClients s (e ∷ h) (set ks q k)
clients_set s e h ks q k there spares are is = λ r lt.
    (let inside : r < length ks = omega (arith, length-set ks q k, lt) in
    elim (cases_eq r q) [
      | inl same ↦ subst (λ (r : ℕ). IsClient s (e ∷ h) r (get_or (set ks q k) r vacant)) (sym same) (subst (IsClient s (e ∷ h) q) (sym (get_or-set_same ks q k vacant there)) is)
      | inr other ↦ subst (IsClient s (e ∷ h) r) (sym (get_or-set_other ks q r k vacant other)) (client_on s e h r (get_or ks r vacant) (spares r other) (are r inside))
    ])

-- What is available

pub framed_same : (s : Setting) (e : Entry) (h : History) (ps : List ℕ) → ((f : ℕ) → piece_in s (e ∷ h) f ≡ piece_in s h f) → list_all (is_framed s (e ∷ h)) ps ≡ list_all (is_framed s h) ps
framed_same s e h [] same = refl
framed_same s e h (p ∷ ps) same = ap (λ (b : Bool). b && list_all (is_framed s (e ∷ h)) ps) (keep_framed s e h p same) ∙ ap (λ (b : Bool). is_framed s h p && b) (framed_same s e h ps same)

pub needs_on : (s : Setting) (e : Entry) (h : History) (q c : ℕ) → Spares q e → needs_chunk s (e ∷ h) q c ≡ needs_chunk s h q c
needs_on s e h q c spares = rw (spares.stops, spares.ends, spares.delivers c) refl

pub ready_on : (s : Setting) (e : Entry) (h : History) (q : ℕ) (k : Client) → Spares q e → ((f : ℕ) → piece_in s (e ∷ h) f ≡ piece_in s h f) → IsReady s h q k → IsReady s (e ∷ h) q k
ready_on s e h q k spares same is = λ c.
    is c ∙ sym (ap (λ (b : Bool). b && is_wholly_framed s (e ∷ h) q c) (needs_on s e h q c spares) ∙ ap (λ (b : Bool). needs_chunk s h q c && b) (framed_same s e h (pieces_read s q c) same))

pub all_ready_on : (s : Setting) (e : Entry) (h : History) (ks : List Client) → ((q : ℕ) → Spares q e) → ((f : ℕ) → piece_in s (e ∷ h) f ≡ piece_in s h f) → AreReady s h ks → AreReady s (e ∷ h) ks
all_ready_on s e h ks spares same are = λ q lt. ready_on s e h q (get_or ks q vacant) (spares q) same (are q lt)

-- which entries spare which queries
differ : (q r : ℕ) → r ≢ q → (q == r) ≡ false
differ q r ne = grind (arith, nat_tests)

and_false : (a b : Bool) → a ≡ false → (a && b) ≡ false
and_false true b e = cc e
and_false false b e = refl

pub spares_register : (w q r : ℕ) → r ≢ q → Spares r (Register w q)
spares_register w q r ne = record { registers = differ q r ne; stops = refl; ends = refl; delivers = λ c. refl; begins_wait = differ q r ne }

pub spares_failed : (w q p r : ℕ) (why : Why) → r ≢ q → Spares r (Failed w q p why)
spares_failed w q p r why ne = record { registers = refl; stops = differ q r ne; ends = refl; delivers = λ c. refl; begins_wait = refl }

pub spares_deliver : (w q d r : ℕ) → r ≢ q → Spares r (Deliver w q d)
spares_deliver w q d r ne = record { registers = refl; stops = refl; ends = refl; delivers = λ c. and_false (q == r) (d == c) (differ q r ne); begins_wait = refl }

pub spares_release : (w q c r : ℕ) → r ≢ q → Spares r (Release w q c)
spares_release w q c r ne = record { registers = refl; stops = refl; ends = refl; delivers = λ c. refl; begins_wait = differ q r ne }

pub spares_stop : (w q r : ℕ) → r ≢ q → Spares r (Stop w q)
spares_stop w q r ne = record { registers = refl; stops = differ q r ne; ends = refl; delivers = λ c. refl; begins_wait = refl }

pub spares_end : (w q r : ℕ) → r ≢ q → Spares r (End w q)
spares_end w q r ne = record { registers = refl; stops = refl; ends = differ q r ne; delivers = λ c. refl; begins_wait = refl }

-- the other kinds spare each query
pub spares_plan : (w q c r : ℕ) → Spares r (Plan w q c)
spares_plan w q c r = record { registers = refl; stops = refl; ends = refl; delivers = λ x. refl; begins_wait = refl }

pub spares_evict : (w c r : ℕ) → Spares r (Evict w c)
spares_evict w c r = record { registers = refl; stops = refl; ends = refl; delivers = λ x. refl; begins_wait = refl }

pub spares_fill : (w f p r : ℕ) → Spares r (Fill w f p)
spares_fill w f p r = record { registers = refl; stops = refl; ends = refl; delivers = λ x. refl; begins_wait = refl }

pub spares_filled : (w f p r : ℕ) → Spares r (Filled w f p)
spares_filled w f p r = record { registers = refl; stops = refl; ends = refl; delivers = λ x. refl; begins_wait = refl }
