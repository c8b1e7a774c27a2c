use Rattle.access.proofs.Goes.{goes_on}
use Rattle.windows.specs.Windows.{write_quad_windows}
use Rattle.windows.proofs.Parts.{short, looks_goes}
use Rattle.windows.proofs.write_quad.Goals as goal

pub write_quad-requires : goal.write_quad-requires
write_quad-requires c =
    let m = c.args.memory.now in (
      short c.args.command.start c.args.command.len m c.window.ensures c.requires.command_in_bounds,
      short c.args.«from».start c.args.«from».len m c.window-2.ensures c.requires.from_in_bounds,
    )

pub returns : goal.returns
unfolding write_quad_windows
returns c = looks_goes _ (goes_on (rw (c.window.ensures, c.window-2.ensures) at c.write_quad.ensures) _)
