-- Number, layer and place of each refusal. Assumes nothing.
use Rattle.std.specs.Prelude.{ℕ}
use Rattle.space.specs.declared.refusal.Layer.{Layer}
use Rattle.space.specs.declared.refusal.Layer.TheVariants.{File, Record, Tree, Point, Walk}
use Rattle.space.specs.declared.refusal.Refusal.{Refusal}
use Rattle.space.specs.declared.refusal.Refusal.TheVariants.{Short, Make, Count, Offset, Length, Room, Solid, Joint, Node, Order, Unused, Outside, Full, Output}
use Rattle.space.specs.declared.refusal.Table.{Table}
use Rattle.space.specs.declared.refusal.Table.TheVariants.{Solids, Joints, Nodes, List}

abbrev pub number : Refusal → ℕ
number Short = 1
number Make = 2
number (Count t) = 3
number (Offset t) = 4
number Length = 5
number (Room t) = 6
number (Solid n) = 7
number (Joint n) = 8
number (Node n) = 9
number (Order n) = 10
number (Unused n) = 11
number (Outside n) = 12
number Full = 18
number Output = 19

abbrev pub layer : Refusal → Layer
layer Short = File
layer Make = File
layer (Count t) = File
layer (Offset t) = File
layer Length = File
layer (Room t) = File
layer (Solid n) = Record
layer (Joint n) = Record
layer (Node n) = Record
layer (Order n) = Tree
layer (Unused n) = Tree
layer (Outside n) = Point
layer Full = Walk
layer Output = File

-- tables go by their order in the file; the list, which no file has, comes last
abbrev pub table_place : Table → ℕ
table_place Solids = 1
table_place Joints = 2
table_place Nodes = 3
table_place List = 4

abbrev pub place : Refusal → ℕ
place Short = 0
place Make = 0
place (Count t) = table_place t
place (Offset t) = table_place t
place Length = 0
place (Room t) = table_place t
place (Solid n) = n
place (Joint n) = n
place (Node n) = n
place (Order n) = n
place (Unused n) = n
place (Outside n) = n
place Full = 0
place Output = 0
