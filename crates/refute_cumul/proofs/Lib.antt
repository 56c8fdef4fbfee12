mod Bounding
mod Changing
mod Placing
