-- What is written of steps stands for their spelling, and is read as these steps.
use Rattle.std.proofs.Common.{◌≡◌, ◌<◌, ◌+◌, ◌*◌, ℕ, List, [], ◌∷◌, ◌++◌, Some, codes, refl, sym, ap}
use Rattle.std.proofs.Common.{◌∙◌, subst, append_assoc, arith, lit≤, inl, inr}
use Rattle.std.specs.Fmt.{decimal}
use Rattle.std.specs.List.{flat_map, fold, All}
use Rattle.std.proofs.lemmas.List.Elements.{All-nil, All-cons, All-head, All-tail}
use Rattle.std.proofs.lemmas.Option.{slice_get_cases}
use Rattle.amdl_tree.specs.Word.{IsName, EndsWord, spelling_of_reserved}
use Rattle.amdl_tree.specs.Spelling.{word, mark, spell_of_end}
use Rattle.amdl_tree.specs.WellBuilt.{IsBuiltEnd}
use Rattle.amdl_tree.specs.declared.token.Token.{Token}
use Rattle.amdl_tree.specs.declared.token.Token.TheVariants.{Sign as Signed}
use Rattle.amdl_tree.specs.declared.token.Sign.TheVariants as signs
use Rattle.amdl_tree.specs.declared.reserved.Reserved.{Reserved}
use Rattle.amdl_tree.specs.declared.reserved.Reserved.TheVariants.{Network}
use Rattle.amdl_tree.proofs.PartLemmas.{Part, Anything, part_then, part_on, part_closed, part_as, part_none, part_blank}
use Rattle.amdl_tree.proofs.PartLemmas.{part_feed, part_name, part_sign, part_comma, part_joined, part_many}
use Rattle.amdl_tree.proofs.PartLemmas.{part_stands}
use Rattle.net_plan.specs.declared.plan.Plan.{Plan}
use Rattle.net_plan.specs.declared.fact.Place.{Place}
use Rattle.net_plan.specs.declared.fact.Place.TheVariants.{Host, Port}
use Rattle.net_plan.specs.Plan.{packets_of, host_at, box_at, port_name_at}
use Rattle.net_plan.specs.Ends.{places_of, ends_of, IsEndAt}
use Rattle.net_plan.specs.Sound.{IsSound}
use Rattle.net_runs.specs.declared.world.Step.{Step}
use Rattle.net_runs.specs.declared.world.Step.TheVariants.{Send, Deliver, Revert}
use Rattle.plan_text.specs.Text.{text_at, text_of_end}
use Rattle.schedule_text.specs.Spelled.{figure, spell_of_choices, spell_of_step}
use Rattle.schedule_text.specs.Spelled.{spell_of_steps, IsBuiltStep, AreBuiltSteps}
use Rattle.schedule_text.specs.Resolved.{IsEndCalled, Resolves, AllResolve}
use Rattle.schedule_text.specs.Written.{IsChoice, IsWritable, line_end, text_of_choices, text_behind_end, line_of_step}
use Rattle.schedule_text.specs.Written.{end_at_place, named_end, named_step, named_steps}
use Rattle.schedule_text.specs.Laws.{WrittenIsReadBack}
use Rattle.schedule_text.proofs.NumberLemmas.{part_number}
use Rattle.schedule_text.proofs.NameLemmas.{host_once, box_once, host_named, box_named, place_built, place_called}
use Rattle.schedule_text.proofs.NameLemmas.{place_once}

abbrev T : Type 0
T = List Token

-- the words of steps are names

-- a number for each word, to tell words apart
abbrev mix : List ℕ → ℕ
mix bytes = fold (λ value byte. 256 * value + byte) 0 bytes

send_free : (reserved : Reserved) → codes "send" ≡ spelling_of_reserved reserved → ⊥
send_free Network e = absurd (omega (arith, ap mix e))
send_free reserved e = absurd (omega (arith, ap mix e))

deliver_free : (reserved : Reserved) → codes "deliver" ≡ spelling_of_reserved reserved → ⊥
deliver_free Network e = absurd (omega (arith, ap mix e))
deliver_free reserved e = absurd (omega (arith, ap mix e))

revert_free : (reserved : Reserved) → codes "revert" ≡ spelling_of_reserved reserved → ⊥
revert_free Network e = absurd (omega (arith, ap mix e))
revert_free reserved e = absurd (omega (arith, ap mix e))

send_is_name : IsName (codes "send")
send_is_name = record { word = (refl, refl); short = lit≤ tt; free = send_free }

deliver_is_name : IsName (codes "deliver")
deliver_is_name = record { word = (refl, refl); short = lit≤ tt; free = deliver_free }

revert_is_name : IsName (codes "revert")
revert_is_name = record { word = (refl, refl); short = lit≤ tt; free = revert_free }

-- a word and a blank
lead : (name : List ℕ) → IsName name → Part Anything (name ++ codes " ") (word name)
lead name is = part_then (part_name name is) part_blank (λ rest follows. refl)

-- the end of a line
closing : Part Anything line_end (mark signs.Semicolon)
closing = part_on (part_sign signs.Semicolon refl) part_feed

-- choices

numbers_part : (choices : List ℕ) → All IsChoice choices →
    Part EndsWord (text_of_choices choices) (spell_of_choices choices)
numbers_part [] all = part_none
numbers_part (choice ∷ choices) all =
    part_closed
    (part_as
    (part_then
    (part_on (part_on part_blank (part_sign signs.OpenBracket refl))
    (part_joined IsChoice decimal figure (λ n lt. part_number n lt) (codes ", ") (Signed signs.Comma) part_comma
    (λ rest. refl) (choice ∷ choices) all))
    (part_sign signs.CloseBracket refl) (λ rest follows. refl))
    (simp append_assoc) refl)

-- what stands behind choices ends a word
choices_end : (choices rest : List ℕ) → EndsWord ((text_of_choices choices ++ line_end) ++ rest)
choices_end [] rest = refl
choices_end (choice ∷ choices) rest = refl

behind_end_part : (packet : ℕ) (choices : List ℕ) → packet < 1000000000 → All IsChoice choices →
    Part Anything (text_behind_end packet choices) (figure packet ++ (spell_of_choices choices ++ mark signs.Semicolon))
behind_end_part packet choices few all =
    part_as
    (part_on part_blank
    (part_then (part_number packet few) (part_then (numbers_part choices all) closing (λ rest follows. refl))
    (λ rest follows. choices_end choices rest))) (simp append_assoc) refl

-- and so does what stands behind the end of a delivery
behind_ends : (packet : ℕ) (choices rest : List ℕ) → EndsWord (text_behind_end packet choices ++ rest)
behind_ends packet choices rest = refl

module _ (plan : Plan) (sound : IsSound plan) where
  place_part : (place : Place) → IsBuiltEnd (end_at_place plan (Some place)) →
      Part EndsWord (text_at plan (Some place)) (spell_of_end (end_at_place plan (Some place)))
  place_part (Host host) is = part_name (host_at plan host).name is
  place_part (Port box port) is =
      part_on
      (part_then (part_name (box_at plan box).name is.0) (part_sign signs.Point refl) (λ rest follows. refl))
      (part_name (port_name_at plan (box_at plan box) port) is.1)

  -- an end below the number of ends has a place
  place_there : (end : ℕ) → end < ends_of plan → (place : Place) × IsEndAt plan end place
  place_there end less =
      elim (slice_get_cases (places_of plan) end).1 [
        | inl there ↦ (there.0, there.2)
        | inr past ↦ absurd (omega (arith, less, past.0))
      ]

  end_built : (end : ℕ) → end < ends_of plan → IsBuiltEnd (named_end plan end)
  end_built end less =
      let p = place_there end less in
      subst (λ place. IsBuiltEnd (end_at_place plan place)) (sym p.1) (place_built plan sound end p.0 p.1)

  end_part : (end : ℕ) → end < ends_of plan → Part EndsWord (text_of_end plan end) (spell_of_end (named_end plan end))
  end_part end less =
      let p = place_there end less in
      subst (λ place. Part EndsWord (text_at plan place) (spell_of_end (end_at_place plan place))) (sym p.1)
      (place_part p.0 (place_built plan sound end p.0 p.1))

  end_called : (end : ℕ) → end < ends_of plan → IsEndCalled plan (named_end plan end) end
  end_called end less =
      let p = place_there end less in
      subst (λ place. IsEndCalled plan (end_at_place plan place) end) (sym p.1) (place_called plan sound end p.0 p.1)

  end_once : (end other : ℕ) → end < ends_of plan → IsEndCalled plan (named_end plan end) other → other ≡ end
  end_once end other less called =
      let p = place_there end less in
      place_once plan sound end other p.0 p.1
      (subst (λ place. IsEndCalled plan (end_at_place plan place) other) p.1 called)

  -- steps

  step_built : (step : Step) → IsWritable plan step → IsBuiltStep (named_step plan step)
  step_built (Send host packet) w = host_named plan sound host w.0
  step_built (Deliver end packet choices) w = end_built end w.0
  step_built (Revert box) w = box_named plan sound box w

  few_packets : (packet : ℕ) → packet < packets_of plan → packet < 1000000000
  few_packets packet less = omega (arith, less, sound.headers.headers.few_packets)

  step_part : (step : Step) → IsWritable plan step →
      Part Anything (line_of_step plan step) (spell_of_step (named_step plan step))
  step_part (Send host packet) w =
      part_as
      (part_on (lead (codes "send") send_is_name)
      (part_then (part_name (host_at plan host).name (host_named plan sound host w.0))
      (part_on part_blank (part_then (part_number packet (few_packets packet w.1)) closing (λ rest follows. refl)))
      (λ rest follows. refl))) (simp append_assoc) refl
  step_part (Deliver end packet choices) w =
      part_as
      (part_on (lead (codes "deliver") deliver_is_name)
      (part_then (end_part end w.0) (behind_end_part packet choices (few_packets packet w.1) w.2)
      (λ rest follows. behind_ends packet choices rest))) (simp append_assoc) refl
  step_part (Revert box) w =
      part_as
      (part_on (lead (codes "revert") revert_is_name)
      (part_then (part_name (box_at plan box).name (box_named plan sound box w)) closing (λ rest follows. refl)))
      (simp append_assoc) refl

  spelled_named : (steps : List Step) →
      flat_map (λ step. spell_of_step (named_step plan step)) steps ≡ spell_of_steps (named_steps plan steps)
  spelled_named [] = refl
  spelled_named (step ∷ steps) = ap (λ t. spell_of_step (named_step plan step) ++ t) (spelled_named steps)

  resolves : (step : Step) → IsWritable plan step → Resolves plan (named_step plan step) step
  resolves (Send host packet) w = ((w.0, refl), w.1, refl)
  resolves (Deliver end packet choices) w = (end_called end w.0, w.1, refl, refl)
  resolves (Revert box) w = (w, refl)

  resolves_once : (step other : Step) → IsWritable plan step → Resolves plan (named_step plan step) other → other ≡ step
  resolves_once (Send host packet) (Send number p) w r =
      let one : number ≡ host = host_once plan sound (host_at plan host).name number host r.0 (w.0, refl) in
      ap (λ h. Send h p) one ∙ ap (Send host) r.2
  resolves_once (Deliver end packet choices) (Deliver number p others) w r =
      ap (λ e. Deliver e p others) (end_once end number w.0 r.0) ∙ ap (λ q. Deliver end q others) r.2
      ∙ ap (Deliver end packet) r.3
  resolves_once (Revert box) (Revert number) w r =
      ap Revert (box_once plan sound (box_at plan box).name number box r (w, refl))
  resolves_once (Send host packet) (Deliver number p others) w r = absurd r
  resolves_once (Send host packet) (Revert number) w r = absurd r
  resolves_once (Deliver end packet choices) (Send number p) w r = absurd r
  resolves_once (Deliver end packet choices) (Revert number) w r = absurd r
  resolves_once (Revert box) (Send number p) w r = absurd r
  resolves_once (Revert box) (Deliver number p others) w r = absurd r

  all_built : (steps : List Step) → All (IsWritable plan) steps → AreBuiltSteps (named_steps plan steps)
  all_built [] w = All-nil IsBuiltStep
  all_built (step ∷ steps) w =
      All-cons IsBuiltStep (named_step plan step) (named_steps plan steps)
      (step_built step (All-head (IsWritable plan) step steps w))
      (all_built steps (All-tail (IsWritable plan) step steps w))

  all_resolve : (steps : List Step) → All (IsWritable plan) steps → AllResolve plan (named_steps plan steps) steps
  all_resolve [] w = tt
  all_resolve (step ∷ steps) w = (
    resolves step (All-head (IsWritable plan) step steps w),
    all_resolve steps (All-tail (IsWritable plan) step steps w),
  )

  all_once : (steps others : List Step) → All (IsWritable plan) steps →
      AllResolve plan (named_steps plan steps) others → others ≡ steps
  all_once [] [] w r = refl
  all_once [] (other ∷ others) w r = absurd r
  all_once (step ∷ steps) [] w r = absurd r
  all_once (step ∷ steps) (other ∷ others) w r =
      ap (λ s. s ∷ others) (resolves_once step other (All-head (IsWritable plan) step steps w) r.0)
      ∙ ap (λ l. step ∷ l) (all_once steps others (All-tail (IsWritable plan) step steps w) r.1)

pub read_back : WrittenIsReadBack
read_back plan steps sound w = record {
  text = part_stands
      (part_as
      (part_many (IsWritable plan) (line_of_step plan) (λ step. spell_of_step (named_step plan step))
      (step_part plan sound) steps w) refl (spelled_named plan sound steps));
  built = all_built plan sound steps w;
  found = all_resolve plan sound steps w;
  only = λ others r. all_once plan sound steps others w r;
}
