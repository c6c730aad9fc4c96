-- The laws, one by one: what crates above cite.
use Rattle.std.proofs.Common.{◌≡◌, ◌+◌, ◌∷◌, [], ◌++◌, length, ap, arith}
use Rattle.std.proofs.lemmas.List.{length-append, length-reverse}
use Rattle.scan_story.specs.declared.entry.Entry.{Entry}
use Rattle.scan_story.specs.declared.setting.Setting.{Setting}
use Rattle.scan_story.specs.Kept.{Kept}
use Rattle.scan_story.specs.Setting.{IsSetting}
use Rattle.scan_story.specs.Views.{past}
use Rattle.scan_story.specs.Whole.{Undisturbed}
use Rattle.story_laws.specs.Bounds.{FitsCapacity, HasAllRoom, IsShort, LoadsArePaid, LostTriggersPayAhead, NextHasRoom, TriggersStayStarved, WholeLoadLittle, capacity_for}
use Rattle.story_laws.specs.Every.{OfEveryLegal}
use Rattle.story_laws.specs.Frames.{EvictionFrees, FillTakesOne, FramesHavePieces, HeldAreFramed, HeldPiecesStay, HoldersAreWorkers, LoadsAreProper, MissingAreInNoFrame, NoPieceTwice, TargetsAreNotWhole}
use Rattle.story_laws.specs.Queries.{DeliveredOnceEach, EndedAreNotStopped, EndedTookAll, FewAreActive, OneActiveAWorker}
use Rattle.story_laws.specs.Victims.{AlwaysAFarVictim, ChosenIsFar, EvictionStarvesNobody, VictimsWereFar}
use Rattle.story_laws.proofs.Active.{few_active, one_active}
use Rattle.story_laws.proofs.Bounding.{ended_not_stopped, loads_paid, paid_ahead, trigger_starved, whole_loads_little}
use Rattle.story_laws.proofs.Delivering.{delivered_once, took_asked}
use Rattle.story_laws.proofs.Evicting.{evict_frees, fill_takes}
use Rattle.story_laws.proofs.Far.{best_is_far, starves_nobody, victims_far}
use Rattle.story_laws.proofs.Grouped.{grouped}
use Rattle.story_laws.proofs.Holds.{holding}
use Rattle.story_laws.proofs.Lengths.{fits_capacity, length_le}
use Rattle.story_laws.proofs.Paid.{paid}
use Rattle.story_laws.proofs.Paying.{Paid}
use Rattle.story_laws.proofs.Proper.{not_whole, sound}
use Rattle.story_laws.proofs.Rooms.{far_victim}
use Rattle.story_laws.proofs.Undisturbing.{held_pieces, undisturbed}

-- Frames

pub no_piece_twice : OfEveryLegal NoPieceTwice
no_piece_twice s h m room legal = (sound s h (grouped s m) legal).apart

pub frames_have_pieces : OfEveryLegal FramesHavePieces
frames_have_pieces s h m room legal = (sound s h (grouped s m) legal).placed

pub loads_are_proper : OfEveryLegal LoadsAreProper
loads_are_proper s h m room legal = (sound s h (grouped s m) legal).load

pub missing_are_in_no_frame : OfEveryLegal MissingAreInNoFrame
missing_are_in_no_frame s h m room legal l u = ((sound s h (grouped s m) legal).load l u).absent

pub targets_are_not_whole : OfEveryLegal TargetsAreNotWhole
targets_are_not_whole s h m room legal l u = not_whole s h l ((sound s h (grouped s m) legal).load l u)

pub eviction_frees : OfEveryLegal EvictionFrees
eviction_frees s h m room legal w c may = evict_frees s h w c (grouped s m) may

pub fill_takes_one : OfEveryLegal FillTakesOne
fill_takes_one s h m room legal w f p may = fill_takes s h w f p may

-- Chunks that are held

pub holders_are_workers : OfEveryLegal HoldersAreWorkers
holders_are_workers s h m room legal = (holding s h m (grouped s m) legal).holder

pub held_are_framed : OfEveryLegal HeldAreFramed
held_are_framed s h m room legal = (holding s h m (grouped s m) legal).framed

pub held_pieces_stay : OfEveryLegal HeldPiecesStay
held_pieces_stay s h m room legal = held_pieces s h m (grouped s m) legal

pub legal_is_undisturbed : OfEveryLegal Undisturbed
legal_is_undisturbed s h m room legal = undisturbed s h m (grouped s m) legal

-- Queries

pub one_active_a_worker : OfEveryLegal OneActiveAWorker
one_active_a_worker s h m room legal = one_active s h legal

pub few_are_active : OfEveryLegal FewAreActive
few_are_active s h m room legal = few_active s h m legal

pub delivered_once_each : OfEveryLegal DeliveredOnceEach
delivered_once_each s h m room legal = delivered_once s h legal

pub ended_took_all : OfEveryLegal EndedTookAll
ended_took_all s h m room legal = took_asked s h m legal

pub ended_are_not_stopped : OfEveryLegal EndedAreNotStopped
ended_are_not_stopped s h m room legal = ended_not_stopped s h (grouped s m) m.distinct (victims_far s h m room (grouped s m) legal) legal

-- Victims

pub always_a_far_victim : OfEveryLegal AlwaysAFarVictim
always_a_far_victim s h m room legal = far_victim s h m room (grouped s m) legal

pub chosen_is_far : OfEveryLegal ChosenIsFar
chosen_is_far s h m room legal = best_is_far s h m legal

pub victims_were_far : OfEveryLegal VictimsWereFar
victims_were_far s h m room legal = victims_far s h m room (grouped s m) legal

pub eviction_starves_nobody : OfEveryLegal EvictionStarvesNobody
eviction_starves_nobody s h m room legal = starves_nobody s h m room (grouped s m) legal

-- Loads

all_paid : OfEveryLegal Paid
all_paid s h m room legal = paid s h (grouped s m) m.distinct (victims_far s h m room (grouped s m) legal) legal

pub loads_are_paid : OfEveryLegal LoadsArePaid
loads_are_paid s h m room legal = loads_paid s h (all_paid s h m room legal) legal

pub lost_triggers_pay_ahead : OfEveryLegal LostTriggersPayAhead
lost_triggers_pay_ahead s h m room legal = paid_ahead s h (all_paid s h m room legal) legal

pub triggers_stay_starved : OfEveryLegal TriggersStayStarved
triggers_stay_starved s h m room legal = trigger_starved s h (all_paid s h m room legal)

pub whole_load_little : OfEveryLegal WholeLoadLittle
whole_load_little s h m room legal = whole_loads_little s h (all_paid s h m room legal) legal

-- Entries

pub is_short : OfEveryLegal IsShort
is_short s h m room legal = length_le s h m (grouped s m) (all_paid s h m room legal) legal

pub next_has_room : NextHasRoom
next_has_room s k e m room legal may all =
    let short = is_short s (e ∷ past k.entries) m room (may.allowed, may.chosen, legal) in
    omega (arith, short, all, length-reverse k.entries)

pub settings_fit : (s : Setting) → IsSetting s → FitsCapacity s
settings_fit = fits_capacity

-- a story with room for the whole capacity has all room, and each push leaves it so
pub all_room_new : (s : Setting) (k : Kept) → k.entries ≡ [] → k.spare ≡ capacity_for s → HasAllRoom s k
all_room_new s k none spare = omega (arith, spare)

pub all_room_kept : (s : Setting) (k j : Kept) (e : Entry) → HasAllRoom s k → j.entries ≡ k.entries ++ e ∷ [] → j.spare + 1 ≡ k.spare → HasAllRoom s j
all_room_kept s k j e all entries spare = omega (arith, all, spare, ap length entries, length-append k.entries (e ∷ []))
