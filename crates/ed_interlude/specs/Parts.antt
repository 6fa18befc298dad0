-- Tapes in parts: programs that return to the Initial Orders at 25, which then read on, and the report on such a tape
-- (this project's own rule). All states are those of the order table, from the one in which the first part begins.
use Rattle.std.specs.Prelude.{ℕ, zero, suc, ◌≡◌, ◌⊎◌, ◌+◌, ◌-◌, ◌<◌, ◌≤◌, nat_eq, if◌then◌else◌}
use Rattle.std.specs.Prelude.{Option, Some, None, List, [], ◌++◌, length}
use Rattle.std.specs.Prelude.{Result, Ok, Err}
use Rattle.ed_machine.specs.State.{State}
use Rattle.ed_machine.specs.Steps.{progress, state_after}
use Rattle.ed_machine.specs.declared.ending.Ending.{Ending}
use Rattle.ed_machine.specs.declared.ending.Ending.TheVariants.{Stopped, Limit}
use Rattle.ed_run.specs.Run.{end_at}
use Rattle.ed_notation.specs.Fold.{NotationState, address}
use Rattle.ed_notation.specs.Openings.{opening}
use Rattle.ed_notation.specs.Faults.{TapeEntry, RowsReachEntry, IsFault, WellFormed}
use Rattle.ed_notation.specs.declared.cause.TapeCause.{TapeCause}
use Rattle.ed_interlude.specs.Returned.{IsReturned, directive, reopening}
use Rattle.ed_io.specs.Bytes.{Gains, GainsPart}
use Rattle.ed_report.specs.Entries.{entry_line, returned_line}
use Rattle.ed_interlude.specs.declared.tape.PartsEnd.{PartsEnd}
use Rattle.ed_interlude.specs.declared.tape.PartsEnd.TheVariants.{Ended, Faulty}
use Rattle.ed_io.specs.declared.stop.WriteStop.{WriteStop}
use Rattle.ed_io.specs.declared.stop.WriteStop.TheVariants.{Failed, Memory}

-- a part as it begins: its number, counted from 1, the number of orders from Start up to it, and the state
pub record TapePart : Type 0 where
  pub number : ℕ
  pub done : ℕ
  pub state : State

-- the first part begins at Start
abbrev pub first_part : State → TapePart
first_part s = record { number = 1; done = 0; state = s }

-- ---- the reading of a part

-- the state of the notation before its first row: that of a whole tape, and in a further part the one that the program
-- left
abbrev pub notation_of : TapePart → NotationState
notation_of p = if nat_eq p.number 1 then opening p.state.store.words else reopening p.state

-- the number of orders before its first row
abbrev pub base_of : TapePart → ℕ
base_of p = if nat_eq p.number 1 then 9 else 2

-- its rows have this fault
abbrev pub HasFault : TapePart → ℕ → TapeCause → Type 0
HasFault p row cause = IsFault p.state.size p.state.store.words (notation_of p) p.state.tape row cause

-- its rows are well formed, and reach this entry
pub record LeadsTo (p : TapePart) (e : TapeEntry) : Type 0 where
  pub well : WellFormed p.state.size p.state.store.words (notation_of p) p.state.tape
  pub comes : RowsReachEntry p.state.store.words (notation_of p) (base_of p) p.state.tape e

-- the number of the tape's rows that were read before the part
abbrev pub read_before : ℕ → TapePart → ℕ
read_before rows p = rows - length p.state.tape

-- the number of orders up to its entry
abbrev pub entry_done : TapePart → TapeEntry → ℕ
entry_done p e = p.done + e.cost

-- the state at its entry
abbrev pub part_entry_state : TapePart → TapeEntry → State
part_entry_state p e = state_after e.cost p.state

-- the line that reports its entry
abbrev pub entry_report : ℕ → TapePart → TapeEntry → List ℕ
entry_report rows p e = entry_line e.at (entry_done p e) (read_before rows p + e.rows)

-- ---- its program

-- how a program that may obey `left` orders ends after k of them, if it does: as a run that is never resumed. What it
-- prints is dropped, so no paper is ever full.
abbrev pub program_end : ℕ → ℕ → State → Option Ending
program_end left k s = end_at left 0 1 k (record (progress k s) { codes = [] })

-- the program has not ended after k orders and has not returned
pub record IsUnderWay (left k : ℕ) (s : State) : Type 0 where
  pub no_end : program_end left k s ≡ None
  pub away : IsReturned (state_after k s) → ⊥

-- the program has neither ended nor returned after any number of orders below k
abbrev pub RunsOn : ℕ → ℕ → State → Type 0
RunsOn left k s = (j : ℕ) → j < k → IsUnderWay left j s

-- the program returns after k orders without a stop
pub record ReturnsToLoader (left k : ℕ) (s : State) : Type 0 where
  pub runs : RunsOn left k s
  pub stops : (progress k s).stops ≡ 0
  pub home : IsReturned (state_after k s)

-- the program ends after k orders; if it also returned then, the end is a stop, which takes precedence over a return
pub record Finishes (left k : ℕ) (s : State) (ending : Ending) : Type 0 where
  pub runs : RunsOn left k s
  pub ends : program_end left k s ≡ Some ending
  pub stopped : IsReturned (state_after k s) → ending ≡ Stopped

-- ---- the report

-- the report on a tape in parts: the lines, how it ended, and the state in which it ended
pub record PartsReport : Type 0 where
  pub text : List ℕ
  pub end : PartsEnd
  pub last : State

-- this is the report of the last part
pub data Concludes (limit rows : ℕ) (p : TapePart) (t : PartsReport) : Type 0 where
  -- the part has a fault, whose row counts from the tape's first row; none of the part's orders is obeyed
  faulty : (row : ℕ) (cause : TapeCause) → HasFault p row cause
      → t ≡ record { text = []; end = Faulty p.number (read_before rows p + row) cause; last = p.state }
      → Concludes limit rows p t
  -- the limit comes before the part's entry
  cut : (e : TapeEntry) → LeadsTo p e → limit < entry_done p e
      → t ≡ record { text = []; end = Ended Limit; last = state_after (limit - p.done) p.state }
      → Concludes limit rows p t
  -- the part's program ends
  finished : (e : TapeEntry) (k : ℕ) (ending : Ending) → LeadsTo p e → entry_done p e ≤ limit
      → Finishes (limit - entry_done p e) k (part_entry_state p e) ending
      → t ≡ record { text = entry_report rows p e; end = Ended ending; last = state_after k (part_entry_state p e) }
      → Concludes limit rows p t

-- the part's program returns
pub record GoesBack (limit : ℕ) (p : TapePart) : Type 0 where
  pub entry : TapeEntry
  pub leads : LeadsTo p entry
  pub within : entry_done p entry ≤ limit
  pub orders : ℕ
  pub comes : ReturnsToLoader (limit - entry_done p entry) orders (part_entry_state p entry)

-- the part that begins at that return
abbrev pub part_after : {limit : ℕ} → (p : TapePart) → GoesBack limit p → TapePart
part_after p b = record {
  number = p.number + 1;
  done = entry_done p b.entry + b.orders;
  state = state_after b.orders (part_entry_state p b.entry);
}

-- the line that reports its return
abbrev pub return_report : {limit : ℕ} → (p : TapePart) → GoesBack limit p → List ℕ
return_report p b = returned_line (address (directive (part_after p b).state)) (part_after p b).done

-- the lines that report its entry and its return
abbrev pub part_report : {limit : ℕ} → ℕ → (p : TapePart) → GoesBack limit p → List ℕ
part_report rows p b = entry_report rows p b.entry ++ return_report p b

-- beginning with this part, n parts return, and the one after them is the last; this is the report
abbrev pub ReportsParts : ℕ → ℕ → ℕ → TapePart → PartsReport → Type 0
ReportsParts limit rows zero p t = Concludes limit rows p t
ReportsParts limit rows (suc n) p t =
    (b : GoesBack limit p) × (rest : PartsReport) × ReportsParts limit rows n (part_after p b) rest
    × (t ≡ record rest { text = part_report rows p b ++ rest.text })

-- this is the report on the tape of a machine at Start
pub record IsReportOfTape (limit : ℕ) (s : State) (t : PartsReport) : Type 0 where
  pub returns : ℕ
  pub told : ReportsParts limit (length s.tape) returns (first_part s) t

-- ---- what the programs print

-- what the last part's program printed; nothing if a fault or the limit came before its entry
abbrev pub last_printed : {limit rows : ℕ} {p : TapePart} {t : PartsReport} → Concludes limit rows p t → List ℕ
last_printed (faulty row cause fault is) = []
last_printed (cut e leads short is) = []
last_printed {p = p} (finished e k ending leads within ends is) = (progress k (part_entry_state p e)).codes

-- what the programs printed from a part onwards, one after the other
abbrev pub printed_from : (limit rows n : ℕ) (p : TapePart) (t : PartsReport) → ReportsParts limit rows n p t → List ℕ
printed_from limit rows zero p t told = last_printed told
printed_from limit rows (suc n) p t told =
    (progress told.0.orders (part_entry_state p told.0.entry)).codes
    ++ printed_from limit rows n (part_after p told.0) told.1 told.2

-- what the programs of a tape printed
abbrev pub programs_printed : {limit : ℕ} {s : State} {t : PartsReport} → IsReportOfTape limit s t → List ℕ
programs_printed {limit} {s} {t} tells = printed_from limit (length s.tape) tells.returns (first_part s) t tells.told

-- ---- if it breaks off

-- after n parts that returned and wrote this text, this part begins
abbrev pub ReachesPart : ℕ → ℕ → TapePart → ℕ → List ℕ → TapePart → Type 0
ReachesPart limit rows first zero text p = (text ≡ []) × (p ≡ first)
ReachesPart limit rows first (suc n) text p =
    (q : TapePart) × (b : GoesBack limit q) × (before : List ℕ) × ReachesPart limit rows first n before q
    × (text ≡ before ++ part_report rows q b) × (p ≡ part_after q b)

-- a line of a part: what the part wrote before it, its text, and the state in which it is written
pub record PartLine : Type 0 where
  pub before : List ℕ
  pub text : List ℕ
  pub state : State

-- a part writes this line: that of its entry, or that of its return
pub data WritesLine (limit rows : ℕ) (p : TapePart) (l : PartLine) : Type 0 where
  of_entry : (e : TapeEntry) → LeadsTo p e → entry_done p e ≤ limit
      → l ≡ record { before = []; text = entry_report rows p e; state = part_entry_state p e }
      → WritesLine limit rows p l
  of_return : (b : GoesBack limit p)
      → l ≡ record { before = entry_report rows p b.entry; text = return_report p b; state = (part_after p b).state }
      → WritesLine limit rows p l

-- the write of a line of this part failed: the machine is in the state in which the line is written, and the lines
-- before it and a prefix of it have been written
pub record LineFailed (limit rows : ℕ) (p : TapePart) (last : State) (before after : Option (List ℕ)) : Type 0 where
  pub line : PartLine
  pub is : WritesLine limit rows p line
  pub state_is : last ≡ line.state
  pub part : List ℕ
  pub rest : List ℕ
  pub whole : line.text ≡ part ++ rest
  pub gains : Gains before after (line.before ++ part)

-- no memory was found for a line of this part: the machine is in the state in which it is written, and the lines
-- before it have been written
pub record LineUnmade (limit rows : ℕ) (p : TapePart) (last : State) (before after : Option (List ℕ)) : Type 0 where
  pub line : PartLine
  pub is : WritesLine limit rows p line
  pub state_is : last ≡ line.state
  pub gains : Gains before after line.before

-- a part broke off: because the write of a line failed; or because no memory was found, either at its beginning, with
-- nothing written, or at a line
abbrev pub BreaksPart : ℕ → ℕ → TapePart → WriteStop → State → Option (List ℕ) → Option (List ℕ) → Type 0
BreaksPart limit rows p Failed last before after = LineFailed limit rows p last before after
BreaksPart limit rows p Memory last before after =
    ((last ≡ p.state) × (after ≡ before)) ⊎ LineUnmade limit rows p last before after

-- parts returned, their lines have been written, and the part after them broke off
pub record BreaksOff (limit : ℕ) (s : State) (fault : WriteStop) (last : State) (before after : Option (List ℕ)) :
    Type 0 where
  pub returns : ℕ
  pub text : List ℕ
  pub part : TapePart
  pub reached : ReachesPart limit (length s.tape) (first_part s) returns text part
  pub then_at : Option (List ℕ)
  pub gains : Gains before then_at text
  pub broke : BreaksPart limit (length s.tape) part fault last then_at after

-- ---- the answer

-- the whole text is on the sink; or, if a write failed or no memory was found, a prefix of it, and the clause says
-- which state the machine is in and which lines have been written
abbrev pub PartsAnswer : ℕ → State → Result PartsEnd WriteStop → State → Option (List ℕ) → Option (List ℕ) → Type 0
PartsAnswer limit s (Ok end) last before after =
    (t : PartsReport) × IsReportOfTape limit s t × (end ≡ t.end) × (last ≡ t.last) × Gains before after t.text
PartsAnswer limit s (Err fault) last before after =
    (t : PartsReport) × IsReportOfTape limit s t × GainsPart before after t.text
    × BreaksOff limit s fault last before after
