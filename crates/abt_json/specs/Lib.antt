pub mod Objects
pub mod Kinds
pub mod Explained
pub mod Printed
