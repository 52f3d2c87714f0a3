-- The exit status of a fault: 1 for an input that is refused, 2 for a command line, 3 for a file or a socket, 4 for memory.
use Rattle.std.specs.Prelude.{ℕ}
use Rattle.rtxtool.specs.declared.command_line.ChooseFault.TheVariants.{Line, Value, OutOfMemory as NoMemory}
use Rattle.runs.specs.declared.fault.DriveFault.TheVariants as driving
use Rattle.commands.specs.declared.drops.ListFault.TheVariants as listing
use Rattle.commands.specs.declared.fault.SimFault.TheVariants.{BadLine, Read, Write, OutOfMemory}
use Rattle.commands.specs.declared.pack.PackFault.TheVariants as packing
use Rattle.commands.specs.declared.show.ShowFault.TheVariants as showing
use Rattle.rtxtool.specs.declared.tell.ToolFault.{ToolFault}
use Rattle.rtxtool.specs.declared.tell.ToolFault.TheVariants.{Input, Output, Choose, Sim, Show, Pack, List, Link, Drive, Memory}

abbrev pub status_of : ToolFault → ℕ
status_of (Sim (BadLine line)) = 1
status_of (Show (showing.Frame fault number)) = 1
status_of (Pack packing.NotRising) = 1
status_of (List listing.BadList) = 1
status_of (Choose (Line error)) = 2
status_of (Choose Value) = 2
status_of Input = 3
status_of Output = 3
status_of (Sim Read) = 3
status_of (Sim Write) = 3
status_of (Show showing.Read) = 3
status_of (Show showing.Write) = 3
status_of (Pack packing.Write) = 3
status_of Link = 3
status_of (Drive driving.Link) = 3
status_of (Choose NoMemory) = 4
status_of (Sim OutOfMemory) = 4
status_of (List listing.OutOfMemory) = 4
status_of (Drive driving.OutOfMemory) = 4
status_of Memory = 4
