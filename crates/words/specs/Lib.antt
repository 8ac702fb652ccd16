-- What the words of the command are: texts as bytes, the texts by number, the picture of a stack, the rule that owns a node, a number read.
pub mod Line
pub mod Texts
pub mod Picture
pub mod Owner
pub mod Number
