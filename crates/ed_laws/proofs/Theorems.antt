-- The theorems of this crate: laws between the commands, and what `call` and `demo` print.
use Rattle.ed_laws.specs.BlockedGuests.{EachGuestIsBlocked}
use Rattle.ed_laws.specs.CallsByDefault.{CallsByDefault}
use Rattle.ed_laws.specs.FaultyTapes.{EachFaultyTapeWaits}
use Rattle.ed_laws.specs.FirstEntries.{EachFirstTapeRunsFromEntry}
use Rattle.ed_laws.specs.MoreResumes.{EachLimitIsKept, EachResume}
use Rattle.ed_laws.specs.OwnRules.{EachOwnRuleShows}
use Rattle.ed_laws.specs.PartsRun.{EachTapeInPartsIsRun}
use Rattle.ed_laws.specs.PrintedLines.{EachLineIsOfItsWord}
use Rattle.ed_laws.specs.PunchedTexts.{EachPunchedTextIsSource}
use Rattle.ed_laws.specs.ReadBack.{EachWordIsReadBack}
use Rattle.ed_laws.specs.Relocation.{EachPartMoves}
use Rattle.ed_laws.specs.SmallerStore.{EachSmallIsFull}
use Rattle.ed_laws.specs.SourceEntries.{EachSourceRunsFromEntry}
use Rattle.ed_laws.specs.Stepped.{EachStepIsRun}
use Rattle.ed_laws.specs.TapeEntries.{EachTapeRunsFromEntry}
use Rattle.ed_laws.specs.TapeFacts.{NotationFacts}
use Rattle.ed_laws.specs.TraceAccounts.{EachTraceAccounts}
use Rattle.ed_headline.specs.BothSizes.{EachSize}
use Rattle.ed_laws.specs.FirstFaults.{EachFaultyTapeWaits1}
use Rattle.ed_laws.specs.Listed.{EachListedIsLoaded}
use Rattle.ed_laws.proofs.BlockedGuests.{each_guest_is_blocked}
use Rattle.ed_laws.proofs.CallsByDefault.{calls_by_default as by_default}
use Rattle.ed_sources.specs.DemoRuns.{EachDemoRuns, LastDemoIsLongest}
use Rattle.ed_sources.proofs.DemoMost.{last_demo_is_longest}
use Rattle.ed_sources.proofs.DemoRuns.{each_demo_runs}
use Rattle.ed_laws.proofs.CutRuns.{first_tapes_run_from_entry, sources_run_from_entry}
use Rattle.ed_laws.proofs.FaultyTapes.{faulty_tapes_wait}
use Rattle.ed_laws.proofs.MoreResumes.{each_limit_is_kept, each_resume}
use Rattle.ed_laws.proofs.OwnRules.{each_own_rule_shows}
use Rattle.ed_laws.proofs.PartsRun.{each_tape_in_parts}
use Rattle.ed_laws.proofs.PrintedLines.{each_line_is_of_its_word}
use Rattle.ed_laws.proofs.PunchedTexts.{each_punched_text_is_source}
use Rattle.ed_laws.proofs.ReadBack.{each_word_is_read_back}
use Rattle.ed_laws.proofs.Relocation.{each_part_moves}
use Rattle.ed_laws.proofs.SmallerStore.{each_small_is_full}
use Rattle.ed_laws.proofs.Stepped.{each_step_is_run}
use Rattle.ed_laws.proofs.TapeEntries.{tapes_run_from_entry}
use Rattle.ed_laws.proofs.TapeFacts.{notation_facts}
use Rattle.ed_laws.proofs.TraceAccounts.{each_trace_accounts}
use Rattle.ed_laws.proofs.BothSizes.{each_size}
use Rattle.ed_laws.proofs.FirstFaults.{faulty_tapes_wait1}
use Rattle.ed_laws.proofs.Listed.{each_listed_is_loaded}

-- what `call` prints without an option; with its options it is said by the contract of `edsac`
pub calls_by_default : CallsByDefault
calls_by_default = by_default

-- what `demo` prints
pub demos : EachDemoRuns
demos = each_demo_runs

-- no `demo` takes more orders than the last one
pub longest_demo : LastDemoIsLongest
longest_demo = last_demo_is_longest

-- what `run` answers to a source, by its run from the entry
pub entered : EachSourceRunsFromEntry
entered = sources_run_from_entry

-- a tape of May 1949 runs from its entry
pub first_orders : EachFirstTapeRunsFromEntry
first_orders = first_tapes_run_from_entry

-- a tape runs from its entry
pub tapes : EachTapeRunsFromEntry
tapes = tapes_run_from_entry

-- a faulty tape is read as it is meant up to the row that is reported, by the 41 orders and by the 31 of May 1949
pub faulty_tapes : EachFaultyTapeWaits
faulty_tapes = faulty_tapes_wait

pub faulty_first_tapes : EachFaultyTapeWaits1
faulty_first_tapes = faulty_tapes_wait1

-- what holds of the notation: blank tape before a tape, the two loaders, and the greatest cost
pub notation : NotationFacts
notation = notation_facts

-- what `punch` writes runs as the source does
pub punched : EachPunchedTextIsSource
punched = each_punched_text_is_source

-- what `listing` shows is what the store holds
pub listed : EachListedIsLoaded
listed = each_listed_is_loaded

-- what a greater limit changes
pub limits : EachLimitIsKept
limits = each_limit_is_kept

-- what more resumes change
pub resumes : EachResume
resumes = each_resume

-- a trace accounts for its run
pub traces : EachTraceAccounts
traces = each_trace_accounts

-- what doesn't depend on the size of the store
pub sizes : EachSize
sizes = each_size

-- what holds on the smaller store holds on the larger one
pub smaller_store : EachSmallIsFull
smaller_store = each_small_is_full

-- the codes of a post-mortem hold every digit of its words
pub read_back : EachWordIsReadBack
read_back = each_word_is_read_back

-- what its lines print, and what they leave open of a word
pub printed_lines : EachLineIsOfItsWord
printed_lines = each_line_is_of_its_word

-- what `step` reports is what `trace`, `tape` and a post-mortem report
pub stepped : EachStepIsRun
stepped = each_step_is_run

-- a tape in parts runs as `parts` reports
pub parts : EachTapeInPartsIsRun
parts = each_tape_in_parts

-- what a run prints that has a guest checked without a Z
pub blocked_guests : EachGuestIsBlocked
blocked_guests = each_guest_is_blocked

-- a run doesn't rest on a rule that never applies in it
pub own_rules : EachOwnRuleShows
own_rules = each_own_rule_shows

-- a part of a tape may be read at any place
pub relocation : EachPartMoves
relocation = each_part_moves
