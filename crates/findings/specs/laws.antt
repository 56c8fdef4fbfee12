pub mod Members
pub mod Numbers
pub mod Tables
pub mod EndGuesses
pub mod Alike
pub mod Kept
pub mod Everywhere
pub mod Open
