use Rattle.std.proofs.Common.{length, refl, ap, ◌∙◌}
use Rattle.message.proofs.Laid.{laid_by_copy, length_laid}
use Rattle.message.proofs.put.Output.put.Goals as goal

pub returns : goal.returns
returns c =
    let b = c.args.self.now.buffer.now in
    let at = c.args.self.now.at in
    let e = laid_by_copy b c.args.bytes.now c.copy_from_slice.new.self at c.copy_from_slice.ensures.after in
    record { lender = refl; long = ap length e ∙ length_laid b at c.args.bytes.now c.requires; place = refl; content = e }
