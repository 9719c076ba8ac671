use Rattle.std.proofs.Common.{◌≡◌, ◌++◌, ℕ, List, rules, sym, ap, ◌∙◌}
use Rattle.paris_text.specs.Mnemonics.{text}
use Rattle.paris_text.specs.Spelling.{instruction_parts, operand_words, spelling}
use Rattle.paris_text.specs.Writing.{tail_text}
use Rattle.paris_text.proofs.WritingLemmas.{joined_tail}
use Rattle.paris_text.proofs.writer.write_instr.Goals as goal

pub returns-clause-text : goal.returns-clause-text
unfolding spelling
returns-clause-text c =
    let p = instruction_parts c.args.instr.now in
    let first : c.extend_from_slice.new.self.items ≡ text p.0 = search rules in
    c.in_ok-push_operands.ensures.text ∙ ap (λ (l : List ℕ). l ++ tail_text (operand_words p.1)) first ∙ sym (joined_tail (text p.0) (operand_words p.1))
