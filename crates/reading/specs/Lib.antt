-- What reading a node promises, over the grammar of the image. In reading order: names, kinds, what is looked at for changes of the stack, the promises.
pub mod Names
pub mod Kinds
pub mod Looks
pub mod Marks
pub mod Promise
pub mod Search
