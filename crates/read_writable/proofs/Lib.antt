mod Lists
mod Numbers
mod Operations
mod Parts
mod Forms
mod Typed
mod Whole
