-- `judge_design` meets its contract: each way out is a law of `JudgingDesign`, whose premises `search` finds among what is known there.
use Rattle.checker.proofs.JudgingDesign.{box_repeated, box_repeated_after, no_room, no_room_after, chain_wrong, chain_wrong_after, tables_permute, stages_answer, stages_after}
use Rattle.checker.proofs.Workspace.{room_stays, stays_zeroed}
use Rattle.checker.proofs.judge_design.Goals as goal

pub returns-then-repeats : goal.returns-then-repeats
returns-then-repeats c = search (box_repeated, box_repeated_after)

pub returns-then-workspace-n : goal.returns-then-workspace-n
returns-then-workspace-n c = search (no_room, no_room_after)

pub returns-then-not-chain_is_box : goal.returns-then-not-chain_is_box
returns-then-not-chain_is_box c = search (chain_wrong, chain_wrong_after)

pub judge_stages-requires : goal.judge_stages-requires
judge_stages-requires c = search (room_stays, stays_zeroed, tables_permute)

pub returns : goal.returns
returns c = search (stages_answer, stages_after)
