use Rattle.std.specs.Option.{IsSome}
use Rattle.std.proofs.Common.{◌≡◌, Some, None, cond, refl, ap, sym, subst, ◌∙◌}
use Rattle.ale_base.specs.Tid.{is_tid}
use Rattle.unit_works.specs.Wires.{letters_left, next_letter, rest_letters, after_take}
use Rattle.unit_works.proofs.NumberLemmas.{found-left, written-left, none-taken}
use Rattle.unit_works.proofs.wires.Wires.take.Goals as goal
use Rattle.unit_works.proofs.wires.Wires.take.Goals.{in-Some, in-None}

pub returns-clause-letter : goal.returns-clause-letter
returns-clause-letter c = elim c.match-get_mut.branch [
  | in-Some w ↦
      w.result-is ∙ w.take.ensures.letter
      ∙ ap next_letter (found-left c.args.tid c.number_of.result c.self.inside.lines.entries (Some w.in-Some.line.now) c.number_of.ensures
      w.in-Some.ensures.value)
      ∙ ap (λ kept. next_letter (letters_left kept c.args.tid)) c.self.view_is
  | in-None w ↦
      w.result-is
      ∙ ap next_letter (found-left c.args.tid c.number_of.result c.self.inside.lines.entries None c.number_of.ensures w.in-None.ensures.value)
      ∙ ap (λ kept. next_letter (letters_left kept c.args.tid)) c.self.view_is
]

pub returns-clause-rest : goal.returns-clause-rest
returns-clause-rest c other = elim c.match-get_mut.branch [
  | in-Some w ↦
      ap (λ inside. letters_left inside.lines.entries other) w.self-inside-is
      ∙ written-left c.args.tid c.number_of.result c.self.inside.lines (c.get_mut.follows.lender w.take.new.self) w.take.new.self c.number_of.ensures
      ((c.get_mut.follows.holds w.take.new.self).3 (subst IsSome w.in-Some.ensures.value refl)) other
      ∙ ap (λ line. cond (is_tid c.args.tid other) line (letters_left c.self.inside.lines.entries other))
      (w.take.ensures.rest
      ∙ ap rest_letters (found-left c.args.tid c.number_of.result c.self.inside.lines.entries (Some w.in-Some.line.now) c.number_of.ensures
      w.in-Some.ensures.value))
      ∙ ap (λ kept. after_take c.args.tid (letters_left kept) other) c.self.view_is
  | in-None w ↦
      ap (λ inside. letters_left inside.lines.entries other) w.self-inside-is
      ∙ ap (λ lines. letters_left lines.entries other) c.get_mut.follows.holds-at-none
      ∙ none-taken c.args.tid other c.self.inside.lines.entries
      (sym (found-left c.args.tid c.number_of.result c.self.inside.lines.entries None c.number_of.ensures w.in-None.ensures.value))
      ∙ ap (λ kept. after_take c.args.tid (letters_left kept) other) c.self.view_is
]
