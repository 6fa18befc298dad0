-- From the stages of a part to the report.
use Rattle.ed_interlude.proofs.Kit.{Err, T_F, Ending, append_assoc, address, [], ap, arith, inl, inr, length, List}
use Rattle.ed_interlude.proofs.Kit.{Option, refl, subst, suc, sym, ℕ, ◌*◌, ◌++◌, ◌+◌, ◌-◌, ◌/◌, ◌∙◌, ◌≡◌, ◌≤◌}
use Rattle.ed_interlude.proofs.Kit.{State, state_after, TapeEntry, Failed, Memory, gains_more, gains_none}
use Rattle.ed_interlude.proofs.Kit.{returned_line, entry_done, entry_report, finished, Finishes, first_part, GoesBack}
use Rattle.ed_interlude.proofs.Kit.{LeadsTo, part_after, part_entry_state, part_report, PartsReport, read_before}
use Rattle.ed_interlude.proofs.Kit.{ReportsParts, ReturnsToLoader, TapePart, Ahead, directive, IsReturned, PartsEnd}
use Rattle.std.proofs.Common.{◌%◌, Result, Ok, IfOk, Vec}
use Rattle.std.specs.declared.alloc.Global.{Global}
use Rattle.ed_words.specs.Words.{order_of}
use Rattle.ed_words.specs.declared.memory.NoMemory.{NoMemory}
use Rattle.ed_words.specs.declared.order.Order.{Order}
use Rattle.ed_machine.proofs.Keeping.{steps_follow}
use Rattle.ed_io.specs.Bytes.{Gains, GainsPart}
use Rattle.ed_io.specs.declared.stop.WriteStop.{WriteStop}
use Rattle.ed_report.specs.Entries.{entry_line}
use Rattle.ed_interlude.specs.Parts.{PartsAnswer, IsReportOfTape, BreaksPart, ReachesPart, PartLine, WritesLine}
use Rattle.ed_interlude.specs.Parts.{of_entry, of_return, return_report}
use Rattle.ed_interlude.specs.Private.Stages.{BreaksReport, Passes}
use Rattle.ed_interlude.specs.declared.part.PartOutcome.TheVariants.{Ended as PartEnded, Returned as PartReturned}
use Rattle.ed_interlude.proofs.Parting.{Opens}
use Rattle.ed_interlude.proofs.Programs.{home_within}
use Rattle.ed_interlude.proofs.Rows.{some_cost}
use Rattle.ed_interlude.proofs.Tales.{behind_opens, from_entry, some_told}

-- ---- texts

-- a prefix of a text is one of a longer text
longer : (a b : Option (List ℕ)) (xs ys text : List ℕ) → text ≡ xs ++ ys → GainsPart a b xs → GainsPart a b text
longer a b xs ys text is g = record {
  part = g.part;
  rest = g.rest ++ ys;
  whole = is ∙ ap (λ t. t ++ ys) g.whole ∙ append_assoc g.part g.rest ys;
  gains = g.gains;
}

-- a text, and a prefix of the one after it
and_part : (a b c : Option (List ℕ)) (xs ys : List ℕ) → Gains a b xs → GainsPart b c ys → GainsPart a c (xs ++ ys)
and_part a b c xs ys whole g = record {
  part = xs ++ g.part;
  rest = g.rest;
  whole = ap (λ t. xs ++ t) g.whole ∙ sym (append_assoc xs g.part g.rest);
  gains = gains_more a b c xs g.part whole g.gains;
}

module _ (limit rows : ℕ) (p : TapePart) where
  -- ---- what breaks off

  -- nothing is written yet
  pub breaks_first : (a : Option (List ℕ)) → Opens p → BreaksReport limit rows p a a
  breaks_first a opens =
      let t = some_told limit rows p opens in record {
        returns = t.0;
        tale = t.1;
        told = t.2;
        gains = record { part = []; rest = t.1.text; whole = refl; gains = gains_none a };
      }

  -- after the lines of a part that returned, a prefix of a text is written
  back_breaks : (b : GoesBack limit p) (a c : Option (List ℕ)) → GainsPart a c (part_report rows p b)
      → BreaksReport limit rows p a c
  back_breaks b a c g =
      let t = some_told limit rows (part_after p b) (behind_opens p b) in
      record {
        returns = suc t.0;
        tale = record t.1 { text = part_report rows p b ++ t.1.text };
        told = (b, t.1, t.2, refl);
        gains = longer a c (part_report rows p b) t.1.text _ refl g;
      }

  -- the line of the entry breaks off
  pub entry_breaks : (e : TapeEntry) {a c : Option (List ℕ)} → LeadsTo p e → entry_done p e ≤ limit
      → GainsPart a c (entry_report rows p e) → BreaksReport limit rows p a c
  entry_breaks e {a} {c} leads within g =
      elim (from_entry limit rows p e leads within) [
        | inl f ↦ record { returns = 0; tale = _; told = finished e f.0 f.1 leads within f.2 refl; gains = g }
        | inr h ↦
            back_breaks (record { entry = e; leads = leads; within = within; orders = h.0; comes = h.1 }) a c
            (longer a c (entry_report rows p e) _ _ refl g)
      ]

  -- the part breaks off at a line, after the lines before it
  pub line_stops : {l : PartLine} {last : State} (a c d : Option (List ℕ)) → WritesLine limit rows p l → last ≡ l.state
      → Gains a c l.before → (fault : WriteStop) → GainsPart c d l.text → (fault ≡ Memory → d ≡ c)
      → BreaksPart limit rows p fault last a d
  line_stops {l} a c d is state before Failed g same = record {
    line = l;
    is = is;
    state_is = state;
    part = g.part;
    rest = g.rest;
    whole = g.whole;
    gains = gains_more a c d l.before g.part before g.gains;
  }
  line_stops {l} a c d is state before Memory g same =
      inr (record { line = l; is = is; state_is = state; gains = rw (same refl) before })

  -- the line of the return breaks off
  pub return_breaks : (b : GoesBack limit p) {a c d : Option (List ℕ)} → Gains a c (entry_report rows p b.entry)
      → GainsPart c d (return_report p b)
      → BreaksReport limit rows p a d
  return_breaks b {a} {c} {d} whole g = back_breaks b a d (and_part a c d _ _ whole g)

-- ---- the whole tape

module _ {limit rows : ℕ} {p first : TapePart} {a c : Option (List ℕ)} (h : Ahead limit rows first p a c)
    (d : Option (List ℕ)) where
  -- the part breaks off
  pub tells_part : BreaksReport limit rows p c d
      → (m : ℕ) × (t : PartsReport) × ReportsParts limit rows m first t × GainsPart a d t.text
  tells_part b =
      let whole = h.completes b.returns b.tale b.told in
      (whole.0, _, whole.1, and_part a c d h.text b.tale.text h.gains b.gains)

  -- it is the last one
  pub tells_all : {end : PartsEnd} {last : State} → Passes limit rows p (Ok (PartEnded end)) last c d
      → (m : ℕ) × (t : PartsReport) × ReportsParts limit rows m first t × (end ≡ t.end) × (last ≡ t.last)
      × Gains a d t.text
  tells_all q =
      let whole = h.completes 0 q.0 q.1 in
      (whole.0, _, whole.1, q.2, q.3, gains_more a c d h.text q.0.text h.gains q.4)

  -- it returns
  pub goes_back : (b : GoesBack limit p) → Gains c d (part_report rows p b)
      → Ahead limit rows first (part_after p b) a d
  goes_back b g = record {
    returns = suc h.returns;
    text = h.text ++ part_report rows p b;
    reached = (p, b, h.text, h.reached, refl, refl);
    gains = gains_more a c d h.text (part_report rows p b) h.gains g;
    completes = λ n rest told.
        let whole = h.completes (suc n) (record rest { text = part_report rows p b ++ rest.text })
        (b, rest, told, refl) in (
          whole.0,
          subst (λ (x : List ℕ). ReportsParts limit rows whole.0 first (record rest { text = x }))
              (sym (append_assoc h.text (part_report rows p b) rest.text)) whole.1,
        );
  }

-- the address of a directive is that of its word
address_is : (d w : ℕ) → w ≡ d → T_F ≤ d → d ≤ T_F + 2 * 1023 → w / 2 % 1024 ≡ d % 4096 / 2
address_is d w is least most = omega arith

-- the line of the return, as the code makes it
pub returned_is : {limit : ℕ} {p : TapePart} (b : GoesBack limit p) {last : State} {word done : ℕ} {order : Order}
    → last ≡ (part_after p b).state → word ≡ directive last → order ≡ order_of word → done ≡ (part_after p b).done
    → returned_line order.address done ≡ return_report p b
returned_is {limit} {p} b {last} {word} {done} {order} is is_word is_order count =
    let leaves = b.comes.home.leaves in
    let whole : word ≡ directive (part_after p b).state = is_word ∙ ap directive is in
    let same : order.address ≡ address (directive (part_after p b).state) =
    ap (λ (o : Order). o.address) is_order
    ∙ address_is (directive (part_after p b).state) word whole leaves.least leaves.most in
    λ i. returned_line (same i) (count i)

-- a text that was made, as an equal text
pub made_as : (r : Result (Vec ℕ Global) NoMemory) (xs ys : List ℕ) → xs ≡ ys
    → IfOk r (λ bytes. bytes.items ≡ xs) → IfOk r (λ bytes. bytes.items ≡ ys)
made_as r xs ys is made = subst (λ (t : List ℕ). IfOk r (λ bytes. bytes.items ≡ t)) is made

-- the line of the entry, as the code makes it
pub entry_is : (rows : ℕ) (p : TapePart) (e : TapeEntry) {at orders count : ℕ} → at ≡ e.at → orders ≡ e.cost
    → count ≡ read_before rows p + e.rows → entry_line at (p.done + orders) count ≡ entry_report rows p e
entry_is rows p e a o n = λ i. entry_line (a i) (p.done + o i) (n i)

module _ (limit : ℕ) (p : TapePart) (e : TapeEntry) {cost : ℕ} {m : State} (same : cost ≡ e.cost)
    (at : m ≡ state_after cost p.state) where
  pub part_entry_state-there : m ≡ part_entry_state p e
  part_entry_state-there = at ∙ ap (λ n. state_after n p.state) same

  pub left_is : limit - (p.done + cost) ≡ limit - entry_done p e
  left_is = ap (λ n. limit - (p.done + n)) same

  pub finishes_there : {k : ℕ} {ending : Ending} → Finishes (limit - (p.done + cost)) k m ending
      → Finishes (limit - entry_done p e) k (part_entry_state p e) ending
  finishes_there {k} {ending} f =
      subst (λ (s : State). Finishes (limit - entry_done p e) k s ending) part_entry_state-there
      (subst (λ n. Finishes n k m ending) left_is f)

  abbrev pub back_from : {k : ℕ} → LeadsTo p e → p.done + cost ≤ limit → ReturnsToLoader (limit - (p.done + cost)) k m
      → GoesBack limit p
  back_from {k} leads within h = record {
    entry = e;
    leads = leads;
    within = omega (arith, same);
    orders = k;
    comes = subst (λ (s : State). ReturnsToLoader (limit - entry_done p e) k s) part_entry_state-there
        (subst (λ n. ReturnsToLoader n k m) left_is h);
  }

  pub behind_is : (k : ℕ) {last : State} → last ≡ state_after k m → last ≡ state_after k (part_entry_state p e)
  behind_is k is = is ∙ ap (λ (s : State). state_after k s) part_entry_state-there

-- the line of the entry breaks off, as the code writes it
pub breaks_entry : (limit rows : ℕ) (p : TapePart) (e : TapeEntry) (a c : Option (List ℕ)) {cost : ℕ} {m : State}
    → LeadsTo p e → cost ≡ e.cost → m ≡ state_after cost p.state → entry_done p e ≤ limit → (fault : WriteStop)
    → GainsPart a c (entry_report rows p e) → (fault ≡ Memory → c ≡ a) → Passes limit rows p (Err fault) m a c
breaks_entry limit rows p e a c leads same at within fault gains memory = (
  entry_breaks limit rows p e leads within gains,
  line_stops limit rows p a a c (of_entry e leads within refl) (part_entry_state-there limit p e same at) (gains_none a)
      fault gains memory,
)

-- the lines of a part that returned, as the code writes them: the line of the entry was written
module _ (rows : ℕ) (r : Result (Vec ℕ Global) NoMemory) (a b d : Option (List ℕ)) {limit : ℕ} {p : TapePart}
    {e : TapeEntry} {cost k word : ℕ} {m last : State} {order : Order} (leads : LeadsTo p e) (same : cost ≡ e.cost)
    (at : m ≡ state_after cost p.state) (within : p.done + cost ≤ limit)
    (h : ReturnsToLoader (limit - (p.done + cost)) k m) (is : last ≡ state_after k m) (is_word : word ≡ directive last)
    (is_order : order ≡ order_of word)
    (made : IfOk r (λ bytes. bytes.items ≡ returned_line order.address (p.done + cost + k)))
    (whole : Gains a b (entry_report rows p e)) where
  abbrev went_back : GoesBack limit p
  went_back = back_from limit p e same at leads within h

  last_is : last ≡ (part_after p went_back).state
  last_is = behind_is limit p e same at k is

  done_is : p.done + cost + k ≡ (part_after p went_back).done
  done_is = ap (λ n. p.done + n + k) same

  told_is : IfOk r (λ bytes. bytes.items ≡ return_report p went_back)
  told_is = made_as r _ _ (returned_is went_back last_is is_word is_order done_is) made

  pub passes_back : ((text : List ℕ) → IfOk r (λ bytes. bytes.items ≡ text) → Gains b d text)
      → Passes limit rows p (Ok (PartReturned (p.done + cost + k))) last a d
  passes_back g = (went_back, done_is, last_is, gains_more a b d _ _ whole (g _ told_is))

  pub breaks_back : (fault : WriteStop) → ((text : List ℕ) → IfOk r (λ bytes. bytes.items ≡ text) → GainsPart b d text)
      → (fault ≡ Memory → d ≡ b) → Passes limit rows p (Err fault) last a d
  breaks_back fault g memory = (
    return_breaks limit rows p went_back whole (g _ told_is),
    line_stops limit rows p a b d (of_return went_back refl) last_is whole fault (g _ told_is) memory,
  )

-- the part after a return: the rows that it has left, and the orders counted in its state and up to it
pub record Later (limit : ℕ) (p q : TapePart) : Type 0 where
  pub fewer : length q.state.tape ≤ length p.state.tape
  pub soon : q.state.orders ≤ p.state.orders + (q.done - p.done)
  pub later : p.done + 2 ≤ q.done
  pub within : q.done ≤ limit

pub behind_later : (limit : ℕ) (p : TapePart) (b : GoesBack limit p) → Later limit p (part_after p b)
behind_later limit p b =
    let entry = steps_follow b.entry.cost p.state in
    let program = steps_follow b.orders (part_entry_state p b.entry) in
    let few = home_within (limit - entry_done p b.entry) (part_entry_state p b.entry) b.orders b.comes in
    let some = some_cost p b.entry b.leads in
    record {
      fewer = omega (arith, entry.fewer, program.fewer);
      soon = omega (arith, entry.soon, program.soon);
      later = omega (arith, some);
      within = omega (arith, few, b.within);
    }

-- nothing is reported yet
pub ahead_first : (limit rows : ℕ) (p : TapePart) (a : Option (List ℕ)) → Ahead limit rows p p a a
ahead_first limit rows p a = record {
  returns = 0;
  text = [];
  reached = (refl, refl);
  gains = gains_none a;
  completes = λ n rest told. (n, told);
}

-- a part returned, and the tape goes on with the next one
pub record Onward (limit rows : ℕ) (first p q : TapePart) (a d : Option (List ℕ)) : Type 0 where
  pub ahead : Ahead limit rows first q a d
  pub home : IsReturned q.state
  pub later : Later limit p q

module _ {limit l rows : ℕ} {s : State} {p : TapePart} {a c : Option (List ℕ)} (d : Option (List ℕ)) (same : l ≡ limit)
    (count : rows ≡ length s.tape) (h : Ahead limit rows (first_part s) p a c) where
  tells : (m : ℕ) (t : PartsReport) → ReportsParts limit rows m (first_part s) t → IsReportOfTape limit s t
  tells m t told = record { returns = m; told = subst (λ n. ReportsParts limit n m (first_part s) t) count told }

  pub answers_over : {end : PartsEnd} {last : State} → Passes l rows p (Ok (PartEnded end)) last c d
      → PartsAnswer limit s (Ok end) last a d
  answers_over {end} {last} q =
      let w = tells_all h d (subst (λ n. Passes n rows p (Ok (PartEnded end)) last c d) same q) in
      (w.1, tells w.0 w.1 w.2, w.3, w.4, w.5)

  pub answers_broken : (fault : WriteStop) (last : State) → Passes l rows p (Err fault) last c d
      → PartsAnswer limit s (Err fault) last a d
  answers_broken fault last q =
      let b = subst (λ n. Passes n rows p (Err fault) last c d) same q in
      let w = tells_part h d b.0 in (
        w.1,
        tells w.0 w.1 w.2,
        w.3,
        record {
          returns = h.returns;
          text = h.text;
          part = p;
          reached = subst (λ n. ReachesPart limit n (first_part s) h.returns h.text p) count h.reached;
          then_at = c;
          gains = h.gains;
          broke = subst (λ n. BreaksPart limit n p fault last c d) count b.1;
        },
      )

  pub goes_onward : {done : ℕ} {last : State} → Passes l rows p (Ok (PartReturned done)) last c d
      → Onward limit rows (first_part s) p (record { number = p.number + 1; done = done; state = last }) a d
  goes_onward {done} {last} q =
      let b = subst (λ n. Passes n rows p (Ok (PartReturned done)) last c d) same q in
      let next : part_after p b.0 ≡ record { number = p.number + 1; done = done; state = last } =
      λ i. record { number = p.number + 1; done = sym b.1 i; state = sym b.2 i } in
      subst (λ (x : TapePart). Onward limit rows (first_part s) p x a d) next (record {
        ahead = goes_back h d b.0 b.3;
        home = b.0.comes.home;
        later = behind_later limit p b.0;
      })
