use Rattle.ed_page.proofs.Kit.{rules, inl, inr, refl, ℕ, ◌≡◌, ◌≢◌, ◌⊎◌}
use Rattle.ed_page.proofs.postmortem.page_post_mortem.Goals as goal

-- buffers of the lengths of a store lack nothing
none_lacks : {A : Type 0} {words digits : ℕ} → words ≡ 1024 → digits ≡ 512 → (words ≢ 1024) ⊎ (digits ≢ 512) → A
none_lacks words digits (inl wrong) = absurd (wrong words)
none_lacks words digits (inr wrong) = absurd (wrong digits)

pub returns-then-words-ne1024-clause-told : goal.returns-then-words-ne1024-clause-told
returns-then-words-ne1024-clause-told c words digits s begins k pictured = search rules

pub returns-then-words-ne1024-clause-early : goal.returns-then-words-ne1024-clause-early
returns-then-words-ne1024-clause-early c lacks = (refl, refl)

pub returns-in-Ok-clause-early : goal.returns-in-Ok-clause-early
returns-in-Ok-clause-early c = none_lacks c.if-words-ne1024.false c.if-digits-ne512.false

pub returns-in-Err-clause-early : goal.returns-in-Err-clause-early
returns-in-Err-clause-early c = none_lacks c.if-words-ne1024.false c.if-digits-ne512.false

pub returns-then-not-is_window-clause-early : goal.returns-then-not-is_window-clause-early
returns-then-not-is_window-clause-early c = none_lacks c.if-words-ne1024.false c.if-digits-ne512.false

pub printed_paper-requires : goal.printed_paper-requires
printed_paper-requires c = search rules
