-- A number below 2^31 is itself as a signed one.
use mir.Syntax.{w32}
use mir.ValLaws.{to_z_pos}
use Rattle.puts.proofs.literal.Goals as goal

pub returns : goal.returns
returns c = to_z_pos w32 c.args.v c.requires
