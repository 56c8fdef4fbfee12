mod Calming
mod Making
mod Raising
