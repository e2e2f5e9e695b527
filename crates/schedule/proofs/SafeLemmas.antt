-- What the first byte of a text tells.
use Rattle.std.proofs.Common.{◌≡◌, ◌≢◌, ◌+◌, ◌<◌, ◌/◌, ◌%◌, ℕ, zero, suc, true, false, nat_eq, cond, List, [], ◌∷◌}
use Rattle.std.proofs.Common.{◌++◌, get_or, length, append-nil, sym, ap, ◌∙◌, subst, append_assoc, arith}
use Rattle.std.specs.Prelude.{codes}
use Rattle.std.specs.Fmt.{decimal, digits, digits_onto, digit_glyph}
use Rattle.std.proofs.lemmas.Bool.{cond_below}
use Rattle.amdl_tree.specs.Layout.{line}
use Rattle.net_plan.specs.declared.plan.Plan.{Plan}
use Rattle.net_plan.specs.Plan.{host_at}
use Rattle.plan_text.specs.Text.{text_of_box}
use Rattle.net_runs.specs.declared.world.Event.{Event}
use Rattle.net_runs.specs.declared.world.Event.TheVariants.{Moved, Delivered, Aborted}
use Rattle.plan_text.specs.Laws.{NeverPrintsSafe}
use Rattle.schedule.specs.Laws.{TextIsNotSafe}
use Rattle.schedule.specs.Texts.{line_of_event, lines_from, lines_of, end_line, bad_of, is_forbidden}
use Rattle.schedule.specs.Texts.{forbidden_text}

-- a text that doesn't begin with the first byte of `network`
not_network : (text : List ℕ) → get_or text 0 0 ≢ 110 → NeverPrintsSafe text
not_network text other front rest whole prints =
    let named : front ≡ line (codes "network" ++ prints.of_network.0) ++ line prints.second ++ prints.third =
    prints.lines ∙ ap (λ t. line t ++ line prints.second ++ prints.third) prints.of_network.1 in
    other (ap (λ t. get_or t 0 0) (whole ∙ ap (λ t. t ++ rest) named))

glyph_is_low : (d : ℕ) → d < 10 → digit_glyph false d < 58
glyph_is_low d less =
    let is : 48 + d ≡ digit_glyph false d = cond_below d 10 (48 + d) (87 + d) less in omega (arith, is, less)

-- digits are put before such bytes
digits_are_low : (k n : ℕ) (acc more : List ℕ) → get_or (acc ++ more) 0 0 < 58 →
    get_or (digits_onto k 10 false n acc ++ more) 0 0 < 58
digits_are_low zero n acc more low = low
digits_are_low (suc k) n acc more low =
    let next : digit_glyph false (n % 10) < 58 = glyph_is_low (n % 10) (omega arith) in
    elim (nat_eq (n / 10) 0) as
    (λ v. get_or
    (cond v (digit_glyph false (n % 10) ∷ acc)
    (digits_onto k 10 false (n / 10) (digit_glyph false (n % 10) ∷ acc)) ++ more) 0 0 < 58) [
      | true ↦ next
      | false ↦ digits_are_low k (n / 10) (digit_glyph false (n % 10) ∷ acc) more next
    ]

number_is_low : (k : ℕ) (more : List ℕ) → get_or more 0 0 < 58 → get_or (decimal k ++ more) 0 0 < 58
unfolding digits
number_is_low k more low = digits_are_low 64 k [] more low

moved_parts : (k a rest : List ℕ) → line (k ++ a) ++ rest ≡ k ++ (a ++ 10 ∷ rest)
moved_parts k a rest = simp append_assoc

aborted_parts : (k a b c d rest : List ℕ) →
    line (k ++ a ++ b ++ c ++ d) ++ rest ≡ k ++ (a ++ (b ++ (c ++ (d ++ 10 ∷ rest))))
aborted_parts k a b c d rest = simp append_assoc

delivered_parts : (k a b c d e rest : List ℕ) →
    line (k ++ a ++ b ++ c ++ d ++ e) ++ rest ≡ k ++ (a ++ (b ++ (c ++ (d ++ (e ++ 10 ∷ rest)))))
delivered_parts k a b c d e rest = simp append_assoc

starts_low : (k : ℕ) (text more : List ℕ) → text ≡ decimal k ++ more → get_or more 0 0 < 58 → get_or text 0 0 < 58
starts_low k text more is low = subst (λ t. get_or t 0 0 < 58) (sym is) (number_is_low k more low)

-- a line begins with its number
begins_low : (plan : Plan) (k : ℕ) (event : Event) (rest : List ℕ) →
    get_or (line_of_event plan k event ++ rest) 0 0 < 58
begins_low plan k Moved rest =
    starts_low k (line_of_event plan k Moved ++ rest) _ (moved_parts (decimal k) (codes " moved") rest) (omega arith)
begins_low plan k (Delivered host packet) rest =
    starts_low k (line_of_event plan k (Delivered host packet) ++ rest) _
    (delivered_parts (decimal k) (codes " delivered ") (host_at plan host).name (codes " ") (decimal packet)
    (forbidden_text (is_forbidden plan host packet)) rest) (omega arith)
begins_low plan k (Aborted box packet) rest =
    starts_low k (line_of_event plan k (Aborted box packet) ++ rest) _
    (aborted_parts (decimal k) (codes " aborted ") (text_of_box plan box) (codes " ") (decimal packet) rest)
    (omega arith)

low_is_other : (text : List ℕ) → get_or text 0 0 < 58 → NeverPrintsSafe text
low_is_other text low = not_network text (λ e. omega (arith, low, e))

event_line_is_other : (plan : Plan) (k : ℕ) (event : Event) → NeverPrintsSafe (line_of_event plan k event)
event_line_is_other plan k event =
    low_is_other (line_of_event plan k event)
    (subst (λ t. get_or t 0 0 < 58) (append-nil (line_of_event plan k event)) (begins_low plan k event []))

end_line_is_other : (steps bad : ℕ) → NeverPrintsSafe (end_line steps bad)
end_line_is_other steps bad =
    not_network (end_line steps bad)
    (λ e. let first : ◌≡◌ {A = ℕ} 101 110 = e in omega (arith, first))

lines_are_other : (plan : Plan) (events : List Event) (rest : List ℕ) → NeverPrintsSafe rest →
    NeverPrintsSafe (lines_of plan events ++ rest)
lines_are_other plan [] rest other = other
lines_are_other plan (event ∷ events) rest other =
    low_is_other ((line_of_event plan 0 event ++ lines_from plan 1 events) ++ rest)
    (subst (λ t. get_or t 0 0 < 58) (sym (append_assoc (line_of_event plan 0 event) (lines_from plan 1 events) rest))
    (begins_low plan 0 event (lines_from plan 1 events ++ rest)))

pub text_is_not_safe : TextIsNotSafe
text_is_not_safe = record {
  event = event_line_is_other;
  end = end_line_is_other;
  lines = lines_are_other;
  whole = λ plan events.
      lines_are_other plan events (end_line (length events) (bad_of plan events))
      (end_line_is_other (length events) (bad_of plan events));
}
