-- Numbers of the worked examples, computed from the definitions.
use Rattle.std.proofs.Common.{◌≡◌, ℕ, List, [], ◌∷◌, ◌++◌, Some, None, true, false, map, get_or, refl, pos, negsuc}
use Rattle.scan_story.specs.declared.setting.PolicyName.TheVariants.{Relevance, Elevator, Normal, Attach}
use Rattle.scan_story.specs.declared.cause.Cause.TheVariants.{Read}
use Rattle.scan_story.specs.declared.ratio.Ratio.{Ratio}
use Rattle.scan_story.specs.declared.entry.Entry.{Entry}
use Rattle.scan_story.specs.declared.entry.Entry.TheVariants.{Plan, Fill, Filled, Deliver}
use Rattle.scan_story.specs.Views.{past}
use Rattle.scan_story.specs.Loads.{underway, free_frames, missing_pieces}
use Rattle.scan_story.specs.Numbers.{needed}
use Rattle.scan_story.specs.Ratios.{query_rank, load_ratio, use_ratio, keep_ratio}
use Rattle.scan_story.specs.MayFollow.{is_victim}
use Rattle.scan_story.specs.Policies.{dist, reach, after_load}
use Rattle.scan_story.specs.Legal.{cursor_at}
use Rattle.scan_story.specs.Spent.{loads, reads, deliveries, stopped_queries}
use Rattle.scan_story.specs.Causes.{cause_of, last_fault}
use Rattle.help_judge.proofs.Stories.{one_count, one_count_story, two_counts, fault_story, six_chunks, six_story, first_four, shorter, both, full, filled_up, columns, load_into}

abbrev ratio : ℕ → ℕ → Ratio
ratio a b = record { num = a; den = b }

-- the desk loads for the shorter query: load ratios 1025/1, 1025/1, 2050/1, query ranks -5 and -2
short_load_ratios : map (load_ratio (shorter Relevance) (past both) 1) (0 ∷ 1 ∷ 2 ∷ []) ≡ ratio 1025 1 ∷ ratio 1025 1 ∷ ratio 2050 1 ∷ []
short_load_ratios = refl

short_query_ranks : map (query_rank (shorter Relevance) (past both)) (1 ∷ 2 ∷ []) ≡ negsuc 4 ∷ negsuc 1 ∷ []
short_query_ranks = refl

-- a delivery prefers the chunk that nobody else needs: use ratios 1/1 and 1/2
short_use_ratios : map (use_ratio (shorter Relevance) (past (both ++ load_into 0 1 0 0 ++ load_into 0 1 2 1)) 1) (0 ∷ 2 ∷ []) ≡ ratio 1 1 ∷ ratio 1 2 ∷ []
short_use_ratios = refl

-- the elevator's cursor: after a pick of chunk 0 it is 1; the next load is chunk 1, and then it is 2
elevator_cursor : after_load Elevator (shorter Elevator) (0 ∷ []) 1 0 ≡ 1 ∷ []
elevator_cursor = refl

elevator_reach : map (reach (shorter Elevator) (past both) (1 ∷ [])) (1 ∷ 2 ∷ []) ≡ 0 ∷ 1 ∷ []
elevator_reach = refl

elevator_dist : map (dist (shorter Elevator) (1 ∷ [])) (0 ∷ 1 ∷ 2 ∷ []) ≡ 2 ∷ 0 ∷ 1 ∷ []
elevator_dist = refl

elevator_next : after_load Elevator (shorter Elevator) (1 ∷ []) 1 1 ≡ 2 ∷ []
elevator_next = refl

-- the victim that nobody needs: keep ratios, and which chunks may be evicted
full_keep_ratios : map (keep_ratio full (past filled_up)) (0 ∷ 1 ∷ 2 ∷ 3 ∷ 4 ∷ 6 ∷ 5 ∷ []) ≡ ratio 1 1 ∷ ratio 1 1 ∷ ratio 1 1 ∷ ratio 0 1 ∷ ratio 0 1 ∷ ratio 1025 1 ∷ ratio 0 1 ∷ []
full_keep_ratios = refl

full_victims : map (is_victim full (past filled_up)) (0 ∷ 1 ∷ 2 ∷ 3 ∷ 4 ∷ 5 ∷ 6 ∷ 7 ∷ 8 ∷ []) ≡ true ∷ true ∷ true ∷ true ∷ true ∷ false ∷ false ∷ false ∷ false ∷ []
full_victims = refl

-- the column layout: query ranks -3 and -4; load ratios 1025/1 and 2050/1 for query 1, 2050/2 and 1025/2 for query 2
column_ranks : map (query_rank columns (past both)) (1 ∷ 2 ∷ []) ≡ negsuc 2 ∷ negsuc 3 ∷ []
column_ranks = refl

column_ratios : map (load_ratio columns (past both) 1) (0 ∷ 1 ∷ []) ≡ ratio 1025 1 ∷ ratio 2050 1 ∷ []
column_ratios = refl

column_ratios_2 : map (load_ratio columns (past both) 2) (1 ∷ 2 ∷ []) ≡ ratio 2050 2 ∷ ratio 1025 2 ∷ []
column_ratios_2 = refl

-- after chunk 1 was loaded for query 1, piece 2 into frame 0, and taken
abbrev column_taken : List Entry
column_taken = both ++ (Plan 0 1 1 ∷ Fill 0 0 2 ∷ Filled 0 0 2 ∷ Deliver 0 1 1 ∷ [])

column_ranks_2 : map (query_rank columns (past column_taken)) (1 ∷ 2 ∷ []) ≡ negsuc 1 ∷ pos 0 ∷ []
column_ranks_2 = refl

column_missing : missing_pieces columns (past column_taken) 2 1 ≡ 3 ∷ []
column_missing = refl

column_use : use_ratio columns (past (both ++ (Plan 0 1 1 ∷ Fill 0 0 2 ∷ Filled 0 0 2 ∷ []))) 1 1 ≡ ratio 1 2
column_use = refl

-- the printed stories end with nothing open
one_count_ends : (underway one_count (past one_count_story) ≡ None) × (needed one_count (past one_count_story) 1 ≡ 0) × (loads one_count (past one_count_story) ≡ 3) × (reads (past one_count_story) ≡ 3) × (deliveries (past one_count_story) ≡ 3)
one_count_ends = (refl, refl, refl, refl, refl)

fault_ends : (cause_of (past fault_story) 1 ≡ Some (Read 0 1)) × (cause_of (past fault_story) 2 ≡ None) × (reads (past fault_story) ≡ 4) × (loads two_counts (past fault_story) ≡ 3) × (stopped_queries two_counts (past fault_story) ≡ 1) × (last_fault 0 (past fault_story) ≡ 1)
fault_ends = (refl, refl, refl, refl, refl, refl)

six_ends : (loads (six_chunks Relevance) (past six_story) ≡ 8) × (deliveries (past six_story) ≡ 12) × (free_frames (six_chunks Relevance) (past six_story) ≡ 0)
six_ends = (refl, refl, refl)

-- as chunk 4 is to be loaded, each policy's candidates for a victim, and its cursor
six_victims : map (is_victim (six_chunks Relevance) (past (first_four ++ (Plan 0 1 4 ∷ [])))) (0 ∷ 1 ∷ 2 ∷ 3 ∷ 4 ∷ 5 ∷ []) ≡ true ∷ true ∷ true ∷ true ∷ false ∷ false ∷ []
six_victims = refl

six_keep_ratios : map (keep_ratio (six_chunks Relevance) (past (first_four ++ (Plan 0 1 4 ∷ [])))) (0 ∷ 3 ∷ []) ≡ ratio 0 1 ∷ ratio 0 1 ∷ []
six_keep_ratios = refl

six_elevator : cursor_at (six_chunks Elevator) (past (first_four ++ (Plan 0 1 4 ∷ []))) ≡ 5 ∷ []
six_elevator = refl

six_elevator_dist : map (dist (six_chunks Elevator) (5 ∷ [])) (0 ∷ 1 ∷ 2 ∷ 3 ∷ []) ≡ 1 ∷ 2 ∷ 3 ∷ 4 ∷ []
six_elevator_dist = refl

six_normal : cursor_at (six_chunks Normal) (past (first_four ++ (Plan 0 1 4 ∷ []))) ≡ 0 ∷ 1 ∷ 2 ∷ 3 ∷ 4 ∷ []
six_normal = refl

six_attach : map (λ q. get_or (cursor_at (six_chunks Attach) (past first_four)) q 9) (0 ∷ 1 ∷ 2 ∷ 256 ∷ 257 ∷ []) ≡ 3 ∷ 1 ∷ 0 ∷ 0 ∷ 9 ∷ []
six_attach = refl
